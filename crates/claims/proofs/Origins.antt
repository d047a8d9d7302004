-- Ask 12 holds of the calls on a session, over the types that the section describes. Assumes nothing but that opening accepts the section, and that the
-- section is bytes.
use Prim.Native.Nat.{ℕ, zero, suc, zero-le, ◌+◌, ◌-◌, ◌/◌, ◌%◌}
use mathlib.Core.Path.{◌≡◌, refl, ap, ◌∙◌, sym, subst}
use mathlib.Core.Bool.{Bool, true, false}
use mathlib.Core.List.{List, [], ◌∷◌, ◌++◌, append-nil}
use mathlib.Core.Logic.{◌⊎◌, inl, inr, ⊎_elim}
use native.Mathlib.Omega.{arith}
use lib.ListN.{length, take, replicate, length-replicate}
use lib.Dec.{ltb}
use Rattle.std.proofs.lemmas.Bool.{cases_lt}
use Rattle.spec_bytes.proofs.words.Laws.{get_replicate}
use Rattle.spec_linux_btf.specs.Reading.{Bytes}
use Rattle.spec_c_dumper.specs.rules.Order.{Table, plain, new, busy, Res, ok, refused}
use Rattle.spec_c_dumper.specs.rules.Types.{Btf, table_of}
use Rattle.spec_c_dumper.specs.rules.Names.{Naming, Names, naming}
use Rattle.spec_c_dumper.specs.rules.Machine.{Machine, Out, wrote, stuck, Sess, Answer, Req, one, all, single, every, serve, run}
use Rattle.spec_c_dumper.specs.needs.Needs.{WF}
use Rattle.spec_c_dumper.specs.needs.Lists.{Ls, afresh}
use Rattle.spec_c_dumper.specs.needs.Session.{Known, machine_by, opened_by, no_names, text_of}
use Rattle.spec_c_dumper.proofs.needs.Lists.{Sized}
use Rattle.spec_c_dumper.proofs.needs.Session.{machine_lawful}
use Rattle.spec_c_dumper.proofs.needs.Alike.{AlikeMachine, BothSess, BothAnswer, run_alike}
use Rattle.spec_c_dumper.proofs.needs.AnyNames.{Nearly, names_alike}
use Rattle.spec_c_dumper.specs.names_apart.Apart.{Apart, apart, none_shown}
use Rattle.spec_c_dumper.specs.origins.Causes.{Traced, WithLeaders, order_with_leaders, listed_entry, each_listed, ids_from, shows_in, always, up_to, entries_in, filled, Explaining, untold, dropped, emitted_traced, ordered_traced, gate_traced, single_traced, onward_traced, list_traced, from_traced, every_traced, Causes, causes_of, one_causes, list_causes, all_causes}
use Rattle.spec_c_dumper.specs.origins.Claims.{FitsList, list_plain}
use Rattle.spec_c_dumper.specs.origins.Lines.{Turns}
use Rattle.spec_c_dumper.proofs.origins.Requests.{single_fits, every_fits, list_fits}
use Rattle.spec_c_dumper.proofs.origins.Numbered.{machine_numbered}
use Rattle.spec_c_dumper.proofs.origins.Lines.{Idle, Told-grown, single_grown, list_grown, every_grown, text_append}
use Rattle.spec_opening.specs.Causes.{opening_number}
use Rattle.spec_opening.specs.Described.{table_in}
use Rattle.spec_session.specs.session.Turns.{Call}
use Rattle.proof_demands.specs.name_counts.Passed.{passed}
use Rattle.proof_demands.specs.demands.Table.{opened_table, names_in, machine_in}
use Rattle.proof_demands.specs.demands.Session as old
use Rattle.proof_demands.specs.demands.Demands as before_that
use Rattle.proof_names_apart.proofs.names_apart.Session.{Fits, FitsValue, fits}
use Rattle.proof_names_apart.proofs.passed_numbers.Passed.{Like, like, none_usual}
use Rattle.proof_calls.specs.line_origins.Claims as work
use Rattle.proof_calls.proofs.line_origins.Claims.{calls_reasoned}
use Rattle.proof_calls.proofs.line_origins.Alike.{BothCauses, one_causes_lem, list_causes_lem, all_causes_lem}
use Rattle.proof_calls.proofs.described.Table.{over_shown, described_wf}
use Rattle.claims.specs.Calls.{ids_in, Lent}
use Rattle.claims.specs.Demand2.{Tells}
use Rattle.claims.specs.Demands.{ruled}
use Rattle.claims.specs.Request12_line_origins.{Listing, Agrees, ByRules, Explains, Reasoned, Request12}
use Rattle.claims.specs.Ours.{on_session, session_lending}
use Rattle.claims.proofs.Names.{plain_are, passed_are, taken, right, ends}
use Rattle.claims.proofs.Demands.{tells_by, session_after, session_sound, session_stated}

-- ---- an accepted call has zeroed what follows its entries
module _ {M H : Type 0} (X : Machine M H) (T : Table) (more shows : ℕ → Bool) (size : ℕ) where
  emitted_zeroed : (t : Explaining M) (x : ℕ) (o : Out (Traced M) H) → (emitted_traced X T more shows t x o).zeroed ≡ true
  unfolding emitted_traced dropped
  emitted_zeroed t x (wrote m) = refl
  emitted_zeroed t x (stuck h e) = refl

  ordered_zeroed : (t : Explaining M) (x : ℕ) (r : Res (WithLeaders M)) → (ordered_traced X T more shows t x r).zeroed ≡ true
  unfolding ordered_traced dropped
  ordered_zeroed t x (ok s b) = emitted_zeroed t x (each_listed X T more shows (listed_entry x s.leaders) (X.store.list s.state) (record { mach = s.state; entries = t.entries }))
  ordered_zeroed t x (refused e) = refl

  gate_zeroed : (t : Explaining M) (x : ℕ) (o b : Bool) → (t.zeroed ≡ true) ⊎ ((gate_traced X T more shows size t x o b).answer.number ≡ 0) → (gate_traced X T more shows size t x o b).zeroed ≡ true
  unfolding gate_traced
  gate_zeroed t x false b (inl q) = q
  gate_zeroed t x false b (inr q) = absurd (let z : ◌≡◌ {A = ℕ} 11 0 = q in omega arith)
  gate_zeroed t x true false (inl q) = q
  gate_zeroed t x true false (inr q) = absurd (let z : ◌≡◌ {A = ℕ} 10 0 = q in omega arith)
  gate_zeroed t x true true q = ordered_zeroed t x (order_with_leaders X.store x 512 T [] (record { state = X.start size t.answer.sess.mach; leaders = [] }) x false)

  single_zeroed : (x : ℕ) (t : Explaining M) → (t.zeroed ≡ true) ⊎ ((single_traced X T more shows size x t).answer.number ≡ 0) → (single_traced X T more shows size x t).zeroed ≡ true
  unfolding single_traced
  single_zeroed x t q = gate_zeroed t x t.answer.sess.is_open (ltb x T.count) q

  onward_zeroed : (K : Explaining M → Explaining M) → ((u : Explaining M) → u.zeroed ≡ true → (K u).zeroed ≡ true) → (u : Explaining M) → u.zeroed ≡ true → (onward_traced X T more shows K u).zeroed ≡ true
  unfolding onward_traced
  onward_zeroed K h u q = by u.answer.number
    where
      by : (m : ℕ) → (elim m as (λ (y : ℕ). Explaining M) [ zero ↦ K u | suc r ↦ u ]).zeroed ≡ true
      by zero = h u q
      by (suc m) = q

  from_zeroed : (n x : ℕ) (t : Explaining M) → t.zeroed ≡ true → (from_traced X T more shows size n x t).zeroed ≡ true
  unfolding from_traced
  from_zeroed zero x t q = q
  from_zeroed (suc n) x t q = onward_zeroed (from_traced X T more shows size n (suc x)) (λ u z. from_zeroed n (suc x) u z) (single_traced X T more shows size x t) (single_zeroed x t (inl q))

  list_zeroed : (xs : List ℕ) (t : Explaining M) → t.zeroed ≡ true → (list_traced X T more shows size xs t).zeroed ≡ true
  unfolding list_traced
  list_zeroed [] t q = q
  list_zeroed (x ∷ xs) t q = onward_zeroed (list_traced X T more shows size xs) (λ u z. list_zeroed xs u z) (single_traced X T more shows size x t) (single_zeroed x t (inl q))

  list_accepted : (xs : List ℕ) (t : Explaining M) → (list_traced X T more shows size xs t).answer.number ≡ 0 → (xs ≡ [] → ⊥) → (list_traced X T more shows size xs t).zeroed ≡ true
  unfolding list_traced onward_traced
  list_accepted [] t e k = absurd (k refl)
  list_accepted (x ∷ xs) t e k = by u.answer.number refl e
    where
      u : Explaining M
      u = single_traced X T more shows size x t

      by : (m : ℕ) → u.answer.number ≡ m → (elim m as (λ (y : ℕ). Explaining M) [ zero ↦ list_traced X T more shows size xs u | suc r ↦ u ]).answer.number ≡ 0
          → (elim m as (λ (y : ℕ). Explaining M) [ zero ↦ list_traced X T more shows size xs u | suc r ↦ u ]).zeroed ≡ true
      by zero z q = list_zeroed xs u (single_zeroed x t (inr z))
      by (suc m) z q = absurd (let y : suc m ≡ 0 = sym z ∙ q in omega arith)

  every_zeroed : (S : Sess M) (b : Bool) → (every_traced X T more shows size S b).answer.number ≡ 0 → (every_traced X T more shows size S b).zeroed ≡ true
  unfolding every_traced
  every_zeroed S false q = absurd (let z : ◌≡◌ {A = ℕ} 11 0 = q in omega arith)
  every_zeroed S true q = from_zeroed (T.count - 1) 1 (record { answer = record { sess = S; number = 0 }; entries = []; zeroed = true }) refl

-- ---- nothing is in progress between requests
module _ {U : Type 0} (N : Naming U) (B : Btf) (void : (table_of B).node 0 ≡ plain) where
  serve_idle : (r : Req) (S : Sess (Ls (Known U))) → Idle S.mach → Idle (serve (machine_by N B) (table_of B) S r).mach
  unfolding serve
  serve_idle (one room x) S i =
      subst (λ (a : Answer (Ls (Known U))). Idle a.sess.mach) (single_fits (machine_by N B) (table_of B) (shows_in B) (machine_numbered N B) room x (untold S)).same (single_grown N B void room x (untold S) i).idle
  serve_idle (all room) S i =
      subst (λ (a : Answer (Ls (Known U))). Idle a.sess.mach) (every_fits (machine_by N B) (table_of B) (shows_in B) (machine_numbered N B) room S S.is_open).same (every_grown N B void room S i S.is_open).idle

  run_idle : (rs : List Req) (S : Sess (Ls (Known U))) → Idle S.mach → Idle (run (machine_by N B) (table_of B) rs S).mach
  unfolding run
  run_idle [] S i = i
  run_idle (r ∷ rs) S i = run_idle rs (serve (machine_by N B) (table_of B) S r) (serve_idle r S i)

  opened_idle : (u : U) → Idle (opened_by N B u).mach
  unfolding afresh
  opened_idle u y e = let z : new ≡ busy = sym (get_replicate new B.type_cnt y) ∙ e in let q : ◌≡◌ {A = ℕ} 0 1 = cc in omega arith

-- ---- an accepted call is explained, where it agrees with the rules: of any calls' words, with any way of keeping names

module _ (p modes : ℕ) (s : List ℕ) (n : ℕ) {U : Type 0} (N : Naming U) (u : U) (wf : WF (table_of (table_in p modes s))) (c : Call) (rs : List Req)
    (h : ByRules on_session session_lending s (machine_by N (table_in p modes s)) (table_of (table_in p modes s)) (shows_in (table_in p modes s)) c (ruled on_session p modes s n N u rs))
    (so_far : take (on_session.len c) c.text ≡ text_of (ruled on_session p modes s n N u rs).mach.pieces) where
  abbrev State : Type 0
  State = Ls (Known U)

  abbrev D : Btf
  D = table_in p modes s

  abbrev T : Table
  T = table_of D

  abbrev X : Machine State U
  X = machine_by N D

  abbrev S : Sess State
  S = ruled on_session p modes s n N u rs

  still : Idle S.mach
  still = run_idle N D wf.void rs (opened_by N D u) (opened_idle N D wf.void u)

  module _ (text l : List ℕ) where
    lines : (ids : List ℕ) (d : Listing Call) (F : (ℕ → Bool) → Explaining State) (P : Answer State) → FitsList 0 F P → Agrees on_session session_lending d (causes_of l (F (up_to (entries_in l))))
        → Told-grown N D wf.void (length text) ids (untold S) (F always) → ((F always).answer.number ≡ 0 → (ids ≡ [] → ⊥) → (F always).zeroed ≡ true) → on_session.number d.call ≡ 0
        → Explains on_session session_lending p modes s n U N u c rs (length text) ids l d
    unfolding causes_of
    lines ids d F P f g w z q =
        let r : (F (up_to (entries_in l))).answer.number ≡ 0 = sym g.number ∙ q in
        let e : F (up_to (entries_in l)) ≡ F always = ⊎_elim (λ k. absurd (let y : ◌≡◌ {A = ℕ} 17 0 = sym (f.short (entries_in l) zero-le k) ∙ r in omega arith)) (λ k. f.fits (entries_in l) k) (cases_lt (entries_in l) f.need) in
        let g' : Agrees on_session session_lending d (causes_of l (F always)) = subst (λ (k : Explaining State). Agrees on_session session_lending d (causes_of l k)) e g in
        let none : (F always).answer.number ≡ 0 = sym g'.number ∙ q in
        let everyone : w.accepted ≡ ids = sym (append-nil w.accepted) ∙ ap (λ (k : List ℕ). w.accepted ++ k) (sym (w.whole none)) ∙ sym w.ids_are in
        record {
          entries = w.entries;
          count = g'.count ∙ ap length w.entries_are;
          list = λ k. g'.list ∙ ap (λ (y : Bool). elim y as (λ (i : Bool). List ℕ) [ true ↦ filled (length l) (F always).entries | false ↦ l ]) (z none k) ∙ ap (filled (length l)) w.entries_are;
          added = w.pieces;
          text = g'.text ∙ ap text_of w.pieces_are ∙ text_append S.mach.pieces w.pieces ∙ ap (λ (k : List ℕ). k ++ text_of w.pieces) (sym so_far);
          turns = subst (λ (k : List ℕ). Turns N D (length text) S k w.entries w.pieces) everyone w.turns;
        }

  reasoned : Reasoned on_session session_lending p modes s n U N u c rs
  unfolding one_causes all_causes list_causes
  reasoned = record {
    by_rules = h;
    one_lines = λ text lent id l q.
        lines text l (id ∷ []) _ (λ r. single_traced X T r (shows_in D) (length text) id (untold S)) (single X T (length text) S id)
        (single_fits X T (shows_in D) (machine_numbered N D) (length text) id (untold S)) (h.one text lent id l) (single_grown N D wf.void (length text) id (untold S) still)
        (λ y k. single_zeroed X T always (shows_in D) (length text) id (untold S) (inr y)) q;
    all_lines = λ text lent l q.
        lines text l (ids_from (T.count - 1) 1) _ (λ r. every_traced X T r (shows_in D) (length text) S S.is_open) (every X T (length text) S S.is_open)
        (every_fits X T (shows_in D) (machine_numbered N D) (length text) S S.is_open) (h.all text lent l) (every_grown N D wf.void (length text) S still S.is_open)
        (λ y k. every_zeroed X T always (shows_in D) (length text) S S.is_open y) q;
    list_lines = λ text lent ids l q.
        lines text l (ids_in ids) _ (λ r. list_traced X T r (shows_in D) (length text) (ids_in ids) (untold S)) (list_plain X T (length text) (ids_in ids) S)
        (list_fits X T (shows_in D) (machine_numbered N D) (length text) (ids_in ids) (untold S) refl) (h.list text lent ids l) (list_grown N D wf.void (length text) (ids_in ids) (untold S) still)
        (λ y k. list_accepted X T always (shows_in D) (length text) (ids_in ids) (untold S) y k) q;
  }

-- ---- the rules: over the table that opening gives, over the described one, and with names that cannot collide

module _ (p modes : ℕ) (s : List ℕ) (n : ℕ) (c : Call) (rs : List Req) (a : old.After p modes s n c rs) where
  lent : (text : List ℕ) → Lent on_session c text → before_that.Lent c text
  lent text l = record { long = l.long; begins = l.begins }

  agrees : (d : Listing Call) (t : Causes (Ls (Known Names))) → work.Agrees (record { call = d.call; count = d.count; list = d.list }) t → Agrees on_session session_lending d t
  agrees d t h = record { number = h.number; count = h.count; list = h.list; is_open = h.is_open; text_len = h.text_len; text = h.text }

  tells : (room : ℕ) (d : Listing Call) (t : Causes (Ls (Known Names))) → Agrees on_session session_lending d t → old.Tells room d.call t.answer → Tells on_session room d.call t.answer
  tells room d t g h = record { number = h.number; value = h.value; len = g.text_len ∙ sym h.value; begins = h.begins; text = h.text }

  opened_rules : ByRules on_session session_lending s (machine_in p modes s n) (before_that.types_in p modes s n) (shows_in (opened_table p modes s n)) c (before_that.ruled p modes s n rs)
  opened_rules =
      let r = calls_reasoned p modes s n in
      record {
        one = λ text l id es. agrees _ _ (r.type c rs a text (lent text l) id es);
        one_text = λ text l id es. tells (length text) _ _ (agrees _ _ (r.type c rs a text (lent text l) id es)) (r.type_text c rs a text (lent text l) id es);
        all = λ text l es. agrees _ _ (r.types c rs a text (lent text l) es);
        all_text = λ text l es. tells (length text) _ _ (agrees _ _ (r.types c rs a text (lent text l) es)) (r.types_text c rs a text (lent text l) es);
        list = λ text l ids es. agrees _ _ (r.list c rs a text (lent text l) (ids_in ids) es);
        list_value = λ text l ids es. r.list_value c rs a text (lent text l) (ids_in ids) es;
      }

  module _ (y : Bytes s) (sound : opening_number p s n ≡ 0) where
    abbrev D' : Btf
    D' = table_in p modes s

    over : ByRules on_session session_lending s (machine_by (names_in p modes s n) D') (table_of D') (shows_in D') c (ruled on_session p modes s n (names_in p modes s n) (no_names D') rs)
    over = over_shown p modes s n y sound (names_in p modes s n)
        (λ X T m shows. ByRules on_session session_lending s X T shows c (run X T rs (record { is_open = true; mach = afresh m (record { names = record { versions = replicate m 0; ledger = [] }; text_len = 0 }); asked = [] })))
        opened_rules

    plain_rules : modes / 8 % 2 ≡ 0 → ByRules on_session session_lending s (machine_by naming D') (table_of D') (shows_in D') c (ruled on_session p modes s n naming (no_names D') rs)
    plain_rules off =
        subst (λ (N : Naming Names). ByRules on_session session_lending s (machine_by N D') (table_of D') (shows_in D') c (ruled on_session p modes s n N (no_names D') rs)) (plain_are p modes s n off) over

    module _ (on : modes / 8 % 2 ≡ 1) where
      abbrev L : Naming Names
      L = passed (taken p modes s n)

      listed_rules : ByRules on_session session_lending s (machine_by L D') (table_of D') (shows_in D') c (ruled on_session p modes s n L (no_names D') rs)
      listed_rules =
          subst (λ (N : Naming Names). ByRules on_session session_lending s (machine_by N D') (table_of D') (shows_in D') c (ruled on_session p modes s n N (no_names D') rs)) (passed_are p modes s n on) over

      abbrev pub NamesNear : Apart → Names → Type 0
      NamesNear = Like D' (taken p modes s n) (right p modes s n y sound on)

      -- the sessions with these lists and with the names of the mode differ in the names only
      abbrev pub Near : Ls (Known Apart) → Ls (Known Names) → Type 0
      Near = Nearly NamesNear D'.type_cnt

      pub names_near : AlikeMachine (machine_by (apart D') D') (machine_by L D') D'.type_cnt (Sized D'.type_cnt) Near NamesNear
      names_near = names_alike NamesNear (Fits D') (FitsValue D') (apart D') L (like D' (taken p modes s n) (right p modes s n y sound on)) D' (fits D' (ends p modes s n y sound))

      pub sessions : BothSess Near (ruled on_session p modes s n (apart D') (none_shown D') rs) (ruled on_session p modes s n L (no_names D') rs)
      unfolding afresh
      sessions = run_alike (machine_by (apart D') D') (machine_by L D') (table_of D') (Sized D'.type_cnt) (machine_lawful L D' D'.type_cnt) (described_wf p modes s n y sound).below Near NamesNear names_near rs
          (opened_by (apart D') D' (none_shown D')) (opened_by L D' (no_names D')) (record {
            same_open = refl;
            same_asked = refl;
            alike = record { rest = refl; names = (refl, none_usual D' (taken p modes s n) (right p modes s n y sound on)); sized = record { marks_n = length-replicate D'.type_cnt new; emits_n = length-replicate D'.type_cnt new } };
          })

      text_same : (t₁ : Answer (Ls (Known Apart))) (t : Answer (Ls (Known Names))) → BothAnswer Near t₁ t → text_of t.sess.mach.pieces ≡ text_of t₁.sess.mach.pieces
      text_same t₁ t h = sym (ap (λ (k : Ls ℕ). text_of k.pieces) h.sessions.alike.rest)

      agrees_apart : (d : Listing Call) (t₁ : Causes (Ls (Known Apart))) (t : Causes (Ls (Known Names))) → BothCauses Near t₁ t → Agrees on_session session_lending d t → Agrees on_session session_lending d t₁
      agrees_apart d t₁ t b g =
          let e = text_same t₁.answer t.answer b.answers in
          record {
            number = g.number ∙ sym b.answers.same_number;
            count = g.count ∙ sym b.same_count;
            list = g.list ∙ sym b.same_list;
            is_open = g.is_open ∙ sym b.answers.sessions.same_open;
            text_len = g.text_len ∙ ap length e;
            text = g.text ∙ e;
          }

      tells_apart : (room : ℕ) (d : Call) (t₁ : Causes (Ls (Known Apart))) (t : Causes (Ls (Known Names))) → BothCauses Near t₁ t → Tells on_session room d t.answer → Tells on_session room d t₁.answer
      tells_apart room d t₁ t b h =
          tells_by on_session room d t.answer t₁.answer (sym b.answers.same_number) (text_same t₁.answer t.answer b.answers) h

      apart_rules : ByRules on_session session_lending s (machine_by (apart D') D') (table_of D') (shows_in D') c (ruled on_session p modes s n (apart D') (none_shown D') rs)
      apart_rules = record {
        one = λ text l id es. agrees_apart _ _ _ (both_one es (length text) id) (listed_rules.one text l id es);
        one_text = λ text l id es. tells_apart (length text) _ _ _ (both_one es (length text) id) (listed_rules.one_text text l id es);
        all = λ text l es. agrees_apart _ _ _ (both_all es (length text)) (listed_rules.all text l es);
        all_text = λ text l es. tells_apart (length text) _ _ _ (both_all es (length text)) (listed_rules.all_text text l es);
        list = λ text l ids es. agrees_apart _ _ _ (both_list es (length text) (ids_in ids)) (listed_rules.list text l ids es);
        list_value = λ text l ids es.
            ap (λ (k : List ℕ). length k + on_session.value (session_lending.request_list c s text ids es).call) sessions.same_asked
            ∙ listed_rules.list_value text l ids es
            ∙ ap length (sym (both_list es (length text) (ids_in ids)).answers.sessions.same_asked);
      }
        where
          both_one : (es : List ℕ) (room x : ℕ) → BothCauses Near (one_causes (machine_by (apart D') D') (table_of D') (shows_in D') es room (ruled on_session p modes s n (apart D') (none_shown D') rs) x)
              (one_causes (machine_by L D') (table_of D') (shows_in D') es room (ruled on_session p modes s n L (no_names D') rs) x)
          both_one es room x = one_causes_lem (machine_by (apart D') D') (machine_by L D') (table_of D') (Sized D'.type_cnt) (machine_lawful L D' D'.type_cnt) (described_wf p modes s n y sound).below Near NamesNear names_near (shows_in D') es room _ _ sessions x

          both_all : (es : List ℕ) (room : ℕ) → BothCauses Near (all_causes (machine_by (apart D') D') (table_of D') (shows_in D') es room (ruled on_session p modes s n (apart D') (none_shown D') rs))
              (all_causes (machine_by L D') (table_of D') (shows_in D') es room (ruled on_session p modes s n L (no_names D') rs))
          both_all es room = all_causes_lem (machine_by (apart D') D') (machine_by L D') (table_of D') (Sized D'.type_cnt) (machine_lawful L D' D'.type_cnt) (described_wf p modes s n y sound).below Near NamesNear names_near (shows_in D') es room _ _ sessions

          both_list : (es : List ℕ) (room : ℕ) (xs : List ℕ) → BothCauses Near (list_causes (machine_by (apart D') D') (table_of D') (shows_in D') es room (ruled on_session p modes s n (apart D') (none_shown D') rs) xs)
              (list_causes (machine_by L D') (table_of D') (shows_in D') es room (ruled on_session p modes s n L (no_names D') rs) xs)
          both_list es room xs = list_causes_lem (machine_by (apart D') D') (machine_by L D') (table_of D') (Sized D'.type_cnt) (machine_lawful L D' D'.type_cnt) (described_wf p modes s n y sound).below Near NamesNear names_near (shows_in D') es room _ _ sessions xs

-- ---- the claim

pub session_reasoned : (p modes : ℕ) (s : List ℕ) (n : ℕ) → Request12 on_session session_lending p modes s n
session_reasoned p modes s n = record {
  plain = λ y off c rs a.
      let ok = session_sound p modes s n c rs a in
      reasoned p modes s n naming (no_names (table_in p modes s)) (described_wf p modes s n y ok) c rs (plain_rules p modes s n c rs (session_after p modes s n a) y ok off)
      ((session_stated p modes s n).plain y off c rs a).demand2.text;
  names_apart = λ y on c rs a.
      let ok = session_sound p modes s n c rs a in
      reasoned p modes s n (apart (table_in p modes s)) (none_shown (table_in p modes s)) (described_wf p modes s n y ok) c rs (apart_rules p modes s n c rs (session_after p modes s n a) y ok on)
      ((session_stated p modes s n).names_apart y on c rs a).demand2.text;
}

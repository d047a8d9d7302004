-- Ask 14 holds: what the call for a section cut down writes, and that the new section answers as the old one, over any calls of which demand 2 holds. Assumes
-- nothing but that the section is bytes.
use Prim.Native.Nat.{ℕ, zero, suc, ◌-◌, ◌<◌, ◌≤◌}
use mathlib.Core.Path.{◌≡◌, refl, ap, ◌∙◌, sym, subst}
use mathlib.Core.Bool.{Bool, true, false}
use mathlib.Core.List.{List, [], ◌∷◌, ◌++◌, map}
use mathlib.Core.Logic.{inl}
use native.Mathlib.Omega.{arith}
use lib.ListN.{length, replicate}
use lib.Dec.{ltb}
use borrow.Author.Tests.{lt-ltb}
use Rattle.spec_bytes.specs.words.Words.{words}
use Rattle.spec_linux_btf.specs.Documentation.{Every}
use Rattle.spec_linux_btf.specs.Reading.{Bytes}
use Rattle.spec_c_dumper.specs.rules.Order.{Node, plain, Table, Mark, new, busy, done, Res, meet, push_if, fresh, visit, order}
use Rattle.spec_c_dumper.specs.rules.Types.{Btf, table_of}
use Rattle.spec_c_dumper.specs.rules.Names.{Naming, Names, naming}
use Rattle.spec_c_dumper.specs.rules.Machine.{Machine, Sess, Answer, Req, one, all, eeach, shut, emitted, ordered, gate, single, every}
use Rattle.spec_c_dumper.specs.needs.Lists.{Ls, afresh}
use Rattle.spec_c_dumper.specs.needs.Session.{Known, Dump, dump, text_of, machine_by, answer_to, dumped, no_names, opened, dump_types}
use Rattle.spec_opening.specs.Types.{described_in, types_of}
use Rattle.spec_opening.specs.Causes.{opening_number}
use Rattle.spec_opening.specs.Described.{table_in}
use Rattle.spec_session.specs.session.Answers.{number_of, answer_of}
use Rattle.spec_session.specs.session.Turns.{Call, call_of}
use Rattle.spec_session.specs.calls.Calls.{type_call}
use Rattle.spec_session.specs.calls.Lists.{then_next, list_from, list_call}
use Rattle.spec_cut.specs.section.Renumbered.{new_id}
use Rattle.spec_cut.specs.section.Section.{cut_number}
use Rattle.spec_cut.specs.section.Stands.{Renumbered, no_requests, request}
use Rattle.spec_cut.proofs.section.Test.{kept_tells}
use Rattle.spec_cut.proofs.reopened.Accepts as accepts
use Rattle.spec_cut.proofs.reopened.Reopened.{cut_reopens}
use Rattle.proof_demands.specs.demands.Table.{opened_table}
use Rattle.proof_demands.specs.demands.Session as old
use Rattle.proof_demands.proofs.demands.Session.{after_holds}
use Rattle.proof_demands.proofs.demands.Demands.{open_number}
use Rattle.proof_names_apart.proofs.same_text.Dumps.{text_in, last_in, dump_text, last_text, last_number}
use Rattle.session_cut.specs.call.Calls.{is_open_on}
use Rattle.proof_calls.proofs.described.Table.{over_described, described_wf}
use Rattle.claims.specs.Calls.{Calls, ids_in, Lent, After, then_one}
use Rattle.claims.specs.Demand2.{Tells}
use Rattle.claims.specs.Demands.{ruled, Stated}
use Rattle.claims.specs.Request14_cut.{kept_by, section_for, Cuts, Numbered, SameText, SameAnswer, SameList, HasNumber, HasNewNumber, Reopened, Reopens, Request14}
use Rattle.claims.specs.Ours.{on_session, session_cutting}
use Rattle.claims.proofs.Demands.{session_stated, session_sound, session_after}
use Rattle.claims.proofs.CutCall.{none_holds, number_told, untouched, value_is, slice_is, not_closed, closed_cut, room}

-- ---- what the rules come to over a table, by its machine

module _ (X : Machine (Ls (Known Names)) Names) (T : Table) where
  answer_by : Sess (Ls (Known Names)) → Req → Answer (Ls (Known Names))
  answer_by S (one room x) = single X T room S x
  answer_by S (all room) = every X T room S S.is_open

  dump_by : List (ℕ × ℕ) → List Req → Sess (Ls (Known Names)) → Dump
  dump_by ns [] S = dump ns (text_of S.mach.pieces)
  dump_by ns (r ∷ rs) S = dump_by (ns ++ (((answer_by S r).number, (answer_by S r).sess.mach.known.text_len) ∷ [])) rs (answer_by S r).sess

module _ (B : Btf) where
  answer_by_lem : (S : Sess (Ls (Known Names))) (r : Req) → answer_to naming B S r ≡ answer_by (machine_by naming B) (table_of B) S r
  unfolding answer_to answer_by
  answer_by_lem S (one room x) = refl
  answer_by_lem S (all room) = refl

  dump_by_lem : (rs : List Req) (ns : List (ℕ × ℕ)) (S : Sess (Ls (Known Names))) → dumped naming B ns rs S ≡ dump_by (machine_by naming B) (table_of B) ns rs S
  unfolding dumped dump_by
  dump_by_lem [] ns S = refl
  dump_by_lem (r ∷ rs) ns S =
      ap (λ (a : Answer (Ls (Known Names))). dumped naming B (ns ++ ((a.number, a.sess.mach.known.text_len) ∷ [])) rs a.sess) (answer_by_lem S r)
      ∙ dump_by_lem rs _ _

-- the same over the table that opening gives and over the described one
dump_described : (p modes : ℕ) (s : List ℕ) (n : ℕ) → Bytes s → opening_number p s n ≡ 0 → (rs : List Req) → dump_types (opened_table p modes s n) rs ≡ dump_types (table_in p modes s) rs
dump_described p modes s n y ok rs =
    dump_by_lem (opened_table p modes s n) rs [] (opened (opened_table p modes s n))
    ∙ over_described p modes s n y ok naming
    (λ X T m. dump_by (machine_by naming (opened_table p modes s n)) (table_of (opened_table p modes s n)) [] rs (opened (opened_table p modes s n)) ≡ dump_by X T [] rs (fresh m)) refl
    ∙ sym (dump_by_lem (table_in p modes s) rs [] (opened (table_in p modes s)))
  where
    fresh : ℕ → Sess (Ls (Known Names))
    fresh m = record { is_open = true; mach = afresh m (record { names = record { versions = replicate m 0; ledger = [] }; text_len = 0 }); asked = [] }

-- a request for void in an open session is not refused by 11
module _ (N : Naming Names) (B : Btf) (S : Sess (Ls (Known Names))) where
  abbrev X : Machine (Ls (Known Names)) Names
  X = machine_by N B

  abbrev Not11 : Res (Ls (Known Names)) → Type 0
  Not11 r = (ordered X (table_of B) S 0 r).number ≡ 11 → ⊥

  abbrev started : Ls (Known Names)
  started = X.start 0 S.mach

  abbrev deeper : Ls (Known Names) → ℕ → Bool → Res (Ls (Known Names))
  deeper s y w = order X.store 511 (table_of B) s y w

  meets : (b : Bool) → Not11 (meet b started)
  unfolding ordered emitted shut meet eeach
  meets true e = absurd (let z : ◌≡◌ {A = ℕ} 0 11 = e in omega arith)
  meets false e = absurd (let z : ◌≡◌ {A = ℕ} 13 11 = e in omega arith)

  void_fresh : Not11 (fresh X.store (table_of B) deeper started 0 false plain)
  unfolding ordered emitted fresh push_if eeach
  void_fresh e = absurd (let z : ◌≡◌ {A = ℕ} 0 11 = e in omega arith)

  visits : (table_of B).node 0 ≡ plain → (m : Mark) → Not11 (visit X.store (table_of B) deeper started 0 false m)
  unfolding visit ordered emitted eeach
  visits void new = subst (λ (nd : Node). Not11 (fresh X.store (table_of B) deeper started 0 false nd)) (sym void) void_fresh
  visits void busy = meets _
  visits void done = λ e. absurd (let z : ◌≡◌ {A = ℕ} 0 11 = e in omega arith)

  open_void : (table_of B).node 0 ≡ plain → 0 < B.type_cnt → S.is_open ≡ true → (single X (table_of B) 0 S 0).number ≡ 11 → ⊥
  unfolding single gate order
  open_void void some o e = visits void (X.store.get started 0) (sym (λ i. (gate X (table_of B) 0 S 0 (o i) (lt-ltb 0 B.type_cnt some i)).number) ∙ e)

  closed_void : S.is_open ≡ false → (single X (table_of B) 0 S 0).number ≡ 11
  unfolding single gate
  closed_void o = ap (λ (b : Bool). (gate X (table_of B) 0 S 0 b (ltb 0 B.type_cnt)).number) o

-- one request more
pub renumbered_more : {I : ℕ → ℕ → Type 0} {rs rs' : List Req} → Renumbered I rs rs' → (room x x' : ℕ) → I x x' → Renumbered I (rs ++ (one room x ∷ [])) (rs' ++ (one room x' ∷ []))
renumbered_more no_requests room x x' i = request room x x' i no_requests
renumbered_more (request r y y' j h) room x x' i = request r y y' j (renumbered_more h room x x' i)

-- ---- the new section, of any calls

module _ {R C : Type 0} (K : Calls R C) (stated : (p modes : ℕ) (s : List ℕ) (n : ℕ) → Stated K p modes s n)
    (sound : (p modes : ℕ) (s : List ℕ) (n : ℕ) (c : C) (rs : List Req) → After K p modes s n c rs → opening_number p s n ≡ 0)
    (p modes : ℕ) (s : List ℕ) (n : ℕ) (given : List ℕ) (n' : ℕ) (h : Reopened K p modes s n given n') where
  abbrev m : ℕ → Bool
  m = kept_by s given

  abbrev s' : List ℕ
  s' = section_for s given

  abbrev D : Btf
  D = table_in p modes s

  abbrev D' : Btf
  D' = table_in p modes s'

  module _ (ok : opening_number p s n ≡ 0) where
    pub ok' : opening_number p s' n' ≡ 0
    ok' = accepts.accepted p s n ok h.bytes (words given) m (kept_tells (described_in s) (words given)) h.short n' h.long_enough

    pub bytes' : Bytes s'
    bytes' = accepts.new_bytes p s n ok h.bytes (words given) m (kept_tells (described_in s) (words given)) h.short

    -- the rules, over both described tables
    by_rules : (rs rs' : List Req) → Renumbered (HasNewNumber K p modes s n given n') rs rs' → dump_types D rs ≡ dump_types D' rs'
    by_rules rs rs' r =
        sym (dump_described p modes s n h.bytes ok rs)
        ∙ (cut_reopens p modes h.old_names s n ok h.bytes (words given) h.short n' h.long_enough).by_rules rs rs' r
        ∙ dump_described p modes s' n' bytes' ok' rs'

    module _ (c c' : C) (rs rs' : List Req) (a : After K p modes s n c rs) (a' : After K p modes s' n' c' rs') (r : Renumbered (HasNewNumber K p modes s n given n') rs rs') where
      abbrev S : Sess (Ls (Known Names))
      S = ruled K p modes s n naming (no_names D) rs

      abbrev S' : Sess (Ls (Known Names))
      S' = ruled K p modes s' n' naming (no_names D') rs'

      pub so_far : SameText K c c'
      unfolding answer_to new_id types_of
      so_far =
          let d = ((stated p modes s n).plain h.bytes h.old_names c rs a).demand2 in
          let d' = ((stated p modes s' n').plain bytes' h.old_names c' rs' a').demand2 in
          let e : text_of S.mach.pieces ≡ text_of S'.mach.pieces = sym (dump_text naming D rs [] (opened D)) ∙ ap text_in (by_rules rs rs' r) ∙ dump_text naming D' rs' [] (opened D') in
          record { is_open = d.is_open ∙ open_same ∙ sym d'.is_open; text_len = d.text_len ∙ ap length e ∙ sym d'.text_len; text = d.text ∙ e ∙ sym d'.text }
        where
          some_types : 0 < types_of s
          some_types = omega arith

          -- void tells it
          void_same : (single (machine_by naming D) (table_of D) 0 S 0).number ≡ (single (machine_by naming D') (table_of D') 0 S' 0).number
          void_same =
              sym (last_number naming D (one 0 0) rs [] (opened D))
              ∙ ap last_in (by_rules _ _ (renumbered_more r 0 0 0 ((some_types, inl refl), refl)))
              ∙ last_number naming D' (one 0 0) rs' [] (opened D')

          open_same : S.is_open ≡ S'.is_open
          open_same = go S.is_open S'.is_open refl refl
            where
              go : (b b' : Bool) → S.is_open ≡ b → S'.is_open ≡ b' → b ≡ b'
              go true true u v = refl
              go false false u v = refl
              go true false u v = absurd (open_void naming D S (described_wf p modes s n h.bytes ok).void (omega arith) u (void_same ∙ closed_void naming D' S' v))
              go false true u v = absurd (open_void naming D' S' (described_wf p modes s' n' bytes' ok').void (omega arith) v (sym void_same ∙ closed_void naming D S u))

      pub next : (text text' : List ℕ) → length text ≡ length text' → Lent K c text → Lent K c' text' → (x : ℕ) → HasNumber K p modes s n given n' x → SameAnswer K (K.request c s text x) (K.request c' s' text' (new_id m x))
      unfolding answer_to
      next text text' long l l' x k =
          let d = ((stated p modes s n).plain h.bytes h.old_names c rs a).demand2.next_one text l x in
          let d' = ((stated p modes s' n').plain bytes' h.old_names c' rs' a').demand2.next_one text' l' (new_id m x) in
          same (length text) (length text') long _ _ _ _ number texts d
          (subst (λ (size : ℕ). Tells K (length text') (K.request c' s' text' (new_id m x)) (single (machine_by naming D') (table_of D') size S' (new_id m x))) (sym long) d')
        where
          both : dump_types D (rs ++ (one (length text) x ∷ [])) ≡ dump_types D' (rs' ++ (one (length text) (new_id m x) ∷ []))
          both = by_rules _ _ (renumbered_more r (length text) x (new_id m x) (k, refl))

          number : (single (machine_by naming D) (table_of D) (length text) S x).number ≡ (single (machine_by naming D') (table_of D') (length text) S' (new_id m x)).number
          number = sym (last_number naming D (one (length text) x) rs [] (opened D)) ∙ ap last_in both ∙ last_number naming D' (one (length text) (new_id m x)) rs' [] (opened D')

          texts : text_of (single (machine_by naming D) (table_of D) (length text) S x).sess.mach.pieces ≡ text_of (single (machine_by naming D') (table_of D') (length text) S' (new_id m x)).sess.mach.pieces
          texts = sym (last_text naming D (one (length text) x) rs [] (opened D)) ∙ ap text_in both ∙ last_text naming D' (one (length text) (new_id m x)) rs' [] (opened D')

          same : (size size' : ℕ) → size ≡ size' → (d d' : C) (b b' : Answer (Ls (Known Names))) → b.number ≡ b'.number → text_of b.sess.mach.pieces ≡ text_of b'.sess.mach.pieces
              → Tells K size d b → Tells K size' d' b' → SameAnswer K d d'
          same size size' z d d' b b' e t q q' = record {
            number = q.number ∙ e ∙ sym q'.number;
            value = q.value ∙ ap length t ∙ sym q'.value;
            begins = q.begins ∙ t ∙ sym q'.begins;
            text = λ no no'.
                q.text (λ w. no (q.number ∙ w)) (λ w. no' (q.number ∙ w))
                ∙ (λ i. t i ++ replicate (z i - length (t i)) 0)
                ∙ sym (q'.text (λ w. no (q.number ∙ e ∙ w)) (λ w. no' (q.number ∙ e ∙ w)));
          }

-- ---- the calls on a session

-- the call
pub session_cuts : (c : Call) (s given out : List ℕ) → Cuts session_cutting c s given out
session_cuts c s given out = record {
  value = λ e. value_is c.session s given out e;
  written = λ e. slice_is c.session s given out e;
  fits = λ e. (sizes e).0;
  short = λ e. (sizes e).1;
  refused = untouched c.session s given out;
}
  where
    sizes : session_cutting.number c s given out ≡ 0 → (length (section_for s given) ≤ length out) × (length (section_for s given) ≤ 16777216)
    sizes e = none_holds (is_open_on c.session s) (types_of s) (words given) (length out) (length (section_for s given)) (sym (number_told c.session s given out) ∙ e)

-- its number
pub numbered_by : (p modes : ℕ) (s : List ℕ) (n : ℕ) → opening_number p s n ≡ 0 → (c : Call) (rs : List Req) → old.After p modes s n c rs → (given out : List ℕ) → Numbered on_session session_cutting s c given out
numbered_by p modes s n ok c rs a given out = number_told c.session s given out ∙ ap (λ (b : Bool). cut_number b (types_of s) (words given) (length out) (length (section_for s given))) (go c.session.«open» refl)
  where
    go : (b : Bool) → c.session.«open» ≡ b → is_open_on c.session s ≡ c.session.«open»
    go true o =
        let h = after_holds p modes s n ok a in
        not_closed c.session s n (ap (λ (q : ℕ). opening_number q s n) h.pointer_size ∙ ok) o h.section ∙ sym o
    go false o = closed_cut c.session s o ∙ sym o

session_numbered : (p modes : ℕ) (s : List ℕ) (n : ℕ) (c : Call) (rs : List Req) → After on_session p modes s n c rs → (given out : List ℕ) → Numbered on_session session_cutting s c given out
session_numbered p modes s n c rs a = numbered_by p modes s n (session_sound p modes s n c rs a) c rs (session_after p modes s n a)

module _ (p modes : ℕ) (s : List ℕ) (n : ℕ) (given : List ℕ) (n' : ℕ) (h : Reopened on_session p modes s n given n') where
  abbrev kept : ℕ → Bool
  kept = kept_by s given

  abbrev small : List ℕ
  small = section_for s given

  abbrev Numbers : List Req → List Req → Type 0
  Numbers = Renumbered (HasNewNumber on_session p modes s n given n')

  -- a list, after k accepted ids
  from : (k : ℕ) (c c' : Call) (rs rs' : List Req) → After on_session p modes s n c rs → After on_session p modes small n' c' rs' → Numbers rs rs' → (text text' : List ℕ) → length text ≡ length text'
      → Lent on_session c text → Lent on_session c' text' → (ids : List ℕ) → Every (HasNumber on_session p modes s n given n') ids
      → SameList on_session (list_from k c.session s c.work text ids) (list_from k c'.session small c'.work text' (map (new_id kept) ids))
  unfolding list_from then_next call_of
  from k c c' rs rs' a a' b text text' e l l' [] q =
      let t = so_far on_session session_stated session_sound p modes s n given n' h (session_sound p modes s n c rs a) c c' rs rs' a a' b in
      record { number = refl; accepted = refl; text = record { is_open = t.is_open; text_len = t.text_len; text = l.begins ∙ t.text ∙ sym l'.begins } }
  from k c c' rs rs' a a' b text text' e l l' (x ∷ ids) q =
      subst (λ (z : ℕ). SameList on_session (ends (number_of d.answer)) (ends' z)) (next on_session session_stated session_sound p modes s n given n' h (session_sound p modes s n c rs a) c c' rs rs' a a' b text text' e l l' x q.0).number
      (by (number_of d.answer) (from (suc k) d d' _ _ after after' numbers d.text d'.text (r.0 ∙ e ∙ sym r'.0) (record { long = omega (arith, r.0, r.1); begins = refl }) (record { long = omega (arith, r'.0, r'.1); begins = refl }) ids q.1))
    where
      d : Call
      d = type_call c.session s c.work text x

      d' : Call
      d' = type_call c'.session small c'.work text' (new_id kept x)

      after : After on_session p modes s n d (rs ++ (one (length text) x ∷ []))
      after = then_one c rs a text l x

      after' : After on_session p modes small n' d' (rs' ++ (one (length text) (new_id kept x) ∷ []))
      after' = subst (λ (size : ℕ). After on_session p modes small n' d' (rs' ++ (one size (new_id kept x) ∷ []))) (sym e) (then_one c' rs' a' text' l' (new_id kept x))

      numbers : Numbers (rs ++ (one (length text) x ∷ [])) (rs' ++ (one (length text) (new_id kept x) ∷ []))
      numbers = renumbered_more b (length text) x (new_id kept x) (q.0, refl)

      r : (length d.text ≡ length text) × (d.session.text_len ≤ length text)
      r = room c.session s c.work text x l.long

      r' : (length d'.text ≡ length text') × (d'.session.text_len ≤ length text')
      r' = room c'.session small c'.work text' (new_id kept x) l'.long

      ends : ℕ → Call
      ends z = elim z [ zero ↦ list_from (suc k) d.session s d.work d.text ids | suc j ↦ call_of d.session (answer_of (suc j) k) d.work d.text ]

      ends' : ℕ → Call
      ends' z = elim z [ zero ↦ list_from (suc k) d'.session small d'.work d'.text (map (new_id kept) ids) | suc j ↦ call_of d'.session (answer_of (suc j) k) d'.work d'.text ]

      by : (z : ℕ) → SameList on_session (list_from (suc k) d.session s d.work d.text ids) (list_from (suc k) d'.session small d'.work d'.text (map (new_id kept) ids)) → SameList on_session (ends z) (ends' z)
      by zero more = more
      by (suc j) more =
          let t = so_far on_session session_stated session_sound p modes s n given n' h (session_sound p modes s n c rs a) d d' _ _ after after' numbers in
          record { number = refl; accepted = refl; text = record { is_open = t.is_open; text_len = t.text_len; text = t.text } }

  session_reopens : Reopens on_session p modes s n given n'
  unfolding list_call
  session_reopens = record {
    opens = λ c rs a S work text f e. open_number S small work text p modes ∙ ap (opening_number p small) e ∙ ok' on_session session_stated session_sound p modes s n given n' h (session_sound p modes s n c rs a);
    alike = λ c c' rs rs' a a' b. record {
      so_far = so_far on_session session_stated session_sound p modes s n given n' h (session_sound p modes s n c rs a) c c' rs rs' a a' b;
      next = next on_session session_stated session_sound p modes s n given n' h (session_sound p modes s n c rs a) c c' rs rs' a a' b;
      next_list = λ text text' e l l' ids ids' q z.
          subst (λ (xs : List ℕ). SameList on_session (on_session.request_list c s text ids) (list_call c'.session small c'.work text' xs)) (sym z)
          (from 0 c c' rs rs' a a' b text text' e l l' (ids_in ids) q);
    };
  }

pub session_cut : Request14 on_session session_cutting
session_cut = record { cuts = session_cuts; numbered = session_numbered; reopens = session_reopens }

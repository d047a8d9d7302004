-- Demands 2 and 3, and what is said of lists of ids, hold over the types that the section describes, of the calls on a session and of the calls for C. Assumes
-- nothing.
use Prim.Native.Nat.{ℕ, zero, suc, ◌+◌, ◌-◌, ◌*◌, ◌/◌, ◌%◌, ◌<◌, ◌≤◌}
use mathlib.Core.Path.{◌≡◌, refl, ap, ◌∙◌, sym, subst}
use mathlib.Core.Bool.{Bool, true, false, ◌||◌}
use mathlib.Core.List.{List, [], ◌∷◌, ◌++◌, Memᴰ}
use mathlib.Core.Logic.{◌↔◌}
use native.Mathlib.Omega.{arith}
use lib.Dec.{eqb}
use lib.ListN.{length, take, replicate}
use lib.Seq.{length-take-le}
use borrow.Author.Tests.{leb-true, eqb-true}
use Rattle.spec_bytes.specs.words.Words.{pick, get_word}
use Rattle.spec_linux_btf.specs.Reading.{Bytes}
use Rattle.spec_c_dumper.specs.rules.Order.{Table}
use Rattle.spec_c_dumper.specs.rules.Types.{Btf, table_of}
use Rattle.spec_c_dumper.specs.rules.Names.{Naming, Names, naming}
use Rattle.spec_c_dumper.specs.rules.Machine.{Machine, Sess, Answer, Req, one, all, single, serve, run}
use Rattle.spec_opening.specs.Causes.{opening_number}
use Rattle.spec_opening.specs.Opened.{Outcome}
use Rattle.spec_session.specs.declared.session.Session.{Session}
use Rattle.spec_session.specs.session.Answers.{Refused, number_of, value_of, answer_of as told}
use Rattle.spec_session.specs.session.Turns.{Call, call_of, then_zeros, unchanged}
use Rattle.spec_session.specs.calls.Calls as calls_of
use Rattle.spec_session.proofs.calls.Laws.{opens_refused}
use Rattle.spec_session.proofs.calls.Claims.{value_is, refused_opening, accepted_opening, type_not_current, types_not_current, closed_stays}
use Rattle.spec_session.proofs.calls.Lists.{ids_from, ids_some, counted_stops}
use Rattle.spec_session.specs.calls.Lists as calls
use Rattle.spec_c_dumper.specs.needs.Needs.{MeetsTwice}
use Rattle.spec_c_dumper.specs.needs.Lists.{Ls, afresh}
use Rattle.spec_c_dumper.specs.needs.Session.{Known, text_of, lines_by, machine_by, answer_to, no_names}
use Rattle.spec_c_dumper.proofs.needs.Session.{by_demand3}
use Rattle.spec_c_dumper.proofs.needs.Bodies.{pieces_are}
use Rattle.spec_c_dumper.proofs.needs.Again.{asked_again}
use Rattle.proof_demands.specs.name_counts.Passed.{passed}
use Rattle.proof_demands.specs.demands.Table.{names_in, machine_in}
use Rattle.proof_demands.specs.demands.Session as claims
use Rattle.proof_demands.specs.demands.Demands as old
use Rattle.proof_demands.proofs.demands.Session.{after_holds}
use Rattle.proof_demands.proofs.demands.Demands.{open_number, after_sound, delivered}
use Rattle.spec_c_dumper.specs.names_apart.Apart.{apart, none_shown}
use Rattle.spec_c_calls.specs.Exports.{Export, export_of}
use Rattle.proof_calls.specs.calls_for_c.Claims as for-c
use Rattle.proof_calls.proofs.calls_for_c.Claims.{delivered_c}
use Rattle.spec_opening.specs.Described.{table_in}
use Rattle.spec_cut.proofs.reopened.Reopened.{run_more}
use Rattle.claims.specs.Demand1.{Numbered, Demand1}
use Rattle.claims.specs.Calls.{Calls, ids_in, singles, Lent, made, After, opened, then_one, then_all, then_list}
use Rattle.claims.specs.Demand2.{Tells, Eleven, Demand2, Closed}
use Rattle.claims.specs.Request01_list_of_ids.{AddsNothing}
use Rattle.claims.specs.Demands.{ruled, Demands, Stated}
use Rattle.claims.specs.Ours.{on_session, for_c}
use Rattle.proof_calls.proofs.described.Table.{over_described, described_wf}
use Rattle.claims.proofs.Opens.{numbered}
use Rattle.claims.proofs.Names.{taken, plain_are, passed_are, same_text, next_number_lem, next_text, same_open}

-- ---- any calls

module _ {R C : Type 0} (K : Calls R C) where
  -- what is the same on two machines tells the same
  pub tells_by : {U W : Type 0} (room : ℕ) (c : C) (a : Answer (Ls (Known U))) (b : Answer (Ls (Known W))) → a.number ≡ b.number → text_of a.sess.mach.pieces ≡ text_of b.sess.mach.pieces
      → Tells K room c a → Tells K room c b
  tells_by room c a b e q t = record {
    number = t.number ∙ e;
    value = t.value ∙ ap length q;
    len = t.len;
    begins = t.begins ∙ q;
    text = λ no_10 no_11. t.text (λ z. no_10 (sym e ∙ z)) (λ z. no_11 (sym e ∙ z)) ∙ ap (λ (x : List ℕ). x ++ replicate (room - length x) 0) q;
  }

  module _ (p modes : ℕ) (s : List ℕ) (n : ℕ) where
    abbrev D : Btf
    D = table_in p modes s

    -- a list that has one id more than another, and has it before
    abbrev ListAgain : C → Type 0
    ListAgain c = K.is_open c ≡ true → (text : List ℕ) → Lent K c text → (ids more : List ℕ) (x : ℕ) → ids_in more ≡ ids_in ids ++ (x ∷ []) → Memᴰ x (ids_in ids) → K.number (K.request_list c s text ids) ≡ 0
        → AddsNothing K (K.request_list c s text ids) (K.text (K.request_list c s text ids)) (K.request_list c s text more) × (K.value (K.request_list c s text more) ≡ suc (K.value (K.request_list c s text ids)))

    -- what is known over the table that the work spells
    record Before (c : C) (rs : List Req) : Type 0 where
      accepted : opening_number p s n ≡ 0
      demand2 : Demand2 K s (machine_in p modes s n) (old.types_in p modes s n) c (old.ruled p modes s n rs)
      closed : Closed K s c
      list_again : ListAgain c

    -- ---- from demand 2 over the described table to the rest, with any way of keeping names
    module _ {U : Type 0} (N : Naming U) (u : U) (y : Bytes s) (ok : opening_number p s n ≡ 0) (c : C) (rs : List Req) (d : Demand2 K s (machine_by N D) (table_of D) c (ruled K p modes s n N u rs)) where
      adds_nothing : K.is_open c ≡ true → (x : ℕ) → Memᴰ x (ruled K p modes s n N u rs).asked → (text : List ℕ) → Lent K c text → AddsNothing K c text (K.request c s text x)
      adds_nothing o x m text l =
          let a = asked_again (lines_by N D) (table_of D) (described_wf p modes s n y ok) (record { names = u; text_len = 0 }) rs (length text) x (sym d.is_open ∙ o) m in
          let t = d.next_one text l x in
          let e : text_of (single (machine_by N D) (table_of D) (length text) (ruled K p modes s n N u rs) x).sess.mach.pieces ≡ take (K.len c) text = ap text_of a.1 ∙ sym d.text ∙ sym l.begins in
          record {
            accepted = t.number ∙ a.0;
            text_len = t.len ∙ t.value ∙ ap length (ap text_of a.1) ∙ sym d.text_len;
            same_text =
                t.text (λ z. absurd (omega (arith, z, a.0))) (λ z. absurd (omega (arith, z, a.0)))
                ∙ ap (λ (x : List ℕ). x ++ replicate (length text - length x) 0) e
                ∙ ap (λ (k : ℕ). take (K.len c) text ++ replicate (length text - k) 0) (length-take-le (K.len c) text l.long);
          }

      all_demands : Closed K s c → ListAgain c → Demands K p modes s n N u c rs
      all_demands later list = record {
        demand2 = d;
        closed = later;
        demand3 = record {
          defined = by_demand3 N D (described_wf p modes s n y ok) u rs;
          bodies = pieces_are N D u rs;
          cycles = λ o text l id below named deep.
              subst (λ (k : ℕ). (k ≡ 13) ↔ MeetsTwice (table_of D) id) (sym (d.next_one text l id).number)
              ((by_demand3 N D (described_wf p modes s n y ok) u rs).cycles (sym d.is_open ∙ o) (length text) id below named deep);
        };
        request01 = record { again = adds_nothing; list_again = list };
      }

    -- ---- demand 2 over the described table
    module _ (y : Bytes s) (c : C) (rs : List Req) (k : Before c rs) where
      -- with the names of the session, as opening leaves them
      over : Demand2 K s (machine_by (names_in p modes s n) D) (table_of D) c (ruled K p modes s n (names_in p modes s n) (no_names D) rs)
      over = over_described p modes s n y k.accepted (names_in p modes s n)
          (λ X T m. Demand2 K s X T c (run X T rs (record { is_open = true; mach = afresh m (record { names = record { versions = replicate m 0; ledger = [] }; text_len = 0 }); asked = [] })))
          k.demand2

      -- with the names of the Rust
      plain : modes / 8 % 2 ≡ 0 → Demands K p modes s n naming (no_names D) c rs
      plain off =
          all_demands naming (no_names D) y k.accepted c rs
          (subst (λ (N : Naming Names). Demand2 K s (machine_by N D) (table_of D) c (ruled K p modes s n N (no_names D) rs)) (plain_are p modes s n off) over)
          k.closed k.list_again

      -- with names that cannot collide
      module _ (on : modes / 8 % 2 ≡ 1) where
        lists : Demand2 K s (machine_by (passed (taken p modes s n)) D) (table_of D) c (ruled K p modes s n (passed (taken p modes s n)) (no_names D) rs)
        lists = subst (λ (N : Naming Names). Demand2 K s (machine_by N D) (table_of D) c (ruled K p modes s n N (no_names D) rs)) (passed_are p modes s n on) over

        by_names : Demand2 K s (machine_by (apart D) D) (table_of D) c (ruled K p modes s n (apart D) (none_shown D) rs)
        unfolding answer_to
        by_names = record {
          text = lists.text ∙ same_text p modes s n y k.accepted on rs;
          text_len = lists.text_len ∙ ap length (same_text p modes s n y k.accepted on rs);
          is_open = lists.is_open ∙ same_open p modes s n y k.accepted on rs;
          next_one = λ text l id.
              tells_by (length text) _ _ _ (next_number_lem p modes s n y k.accepted on rs (one (length text) id)) (next_text p modes s n y k.accepted on rs (one (length text) id))
              (lists.next_one text l id);
          next_all = λ text l.
              tells_by (length text) _ _ _ (next_number_lem p modes s n y k.accepted on rs (all (length text))) (next_text p modes s n y k.accepted on rs (all (length text)))
              (lists.next_all text l);
        }

        names_apart : Demands K p modes s n (apart D) (none_shown D) c rs
        names_apart = all_demands (apart D) (none_shown D) y k.accepted c rs by_names k.closed k.list_again

    stated_by : ((c : C) (rs : List Req) → After K p modes s n c rs → Before c rs) → Stated K p modes s n
    stated_by known = record {
      plain = λ y off c rs a. plain y c rs (known c rs a) off;
      names_apart = λ y on c rs a. names_apart y c rs (known c rs a) on;
    }

-- ---- lists of ids as single requests, in the words of two crates
pub singles_same : (room k : ℕ) (ids : List ℕ) → claims.singles_for room k ids ≡ singles room k ids
unfolding claims.singles_for singles
singles_same room zero ids = refl
singles_same room (suc k) [] = refl
singles_same room (suc k) (id ∷ ids) = ap (λ (l : List Req). one room id ∷ l) (singles_same room k ids)

-- ---- the calls on a session

-- a refused opening returns no types
opened_none : (S : Session) (s work text : List ℕ) (p modes : ℕ) → eqb (opening_number p s (length work)) 0 ≡ false → value_of (calls_of.open_call S s work text p modes).answer ≡ 0
unfolding calls_of.open_call calls_of.opened_call
opened_none S s work text p modes q =
    ap (λ (x : Outcome). value_of (calls_of.opened_call S (length s) (length work) p modes x).answer) (opens_refused p modes s work text q)
    ∙ value_is (opening_number p s (length work)) 0

-- a list of one id or more in a closed session
list_closed : (S : Session) (s w t ids : List ℕ) → 4 ≤ length ids → S.«open» ≡ false → calls.list_call S s w t (ids_in ids) ≡ unchanged S (Refused 11 0) w t
unfolding calls.list_call calls.list_from calls.ids_in ids_in call_of told number_of
list_closed S s w t ids l o =
    ap (calls.list_from 0 S s w t) (ids_some ids l)
    ∙ ap (λ (c : Call). calls.then_next 0 c (λ d. calls.list_from 1 d.session s d.work d.text (ids_from ids 1 (calls.count_in ids - 1)))) (type_not_current S s w t (get_word ids 0) (closed_stays S s w t o))
    ∙ counted_stops 0 11 (unchanged S (Refused 11 S.text_len) w t) (λ d. calls.list_from 1 d.session s d.work d.text (ids_from ids 1 (calls.count_in ids - 1))) refl (λ z. absurd (omega (arith, z)))

pub made_same : (c : Call) → claims.made 0 c ≡ made on_session c
unfolding claims.made made
made_same c =
    let z : on_session.value c - 0 ≡ on_session.value c = omega arith in
    λ i. z i + pick (eqb (on_session.number c) 0 || eqb (on_session.number c) 11) 0 1

module _ (p modes : ℕ) (s : List ℕ) (n : ℕ) where
  pub session_after : {c : Call} {rs : List Req} → After on_session p modes s n c rs → claims.After p modes s n c rs
  session_after (opened S work text z q) = claims.after_open S work text z q
  session_after (then_one c rs a text l id) = claims.after_one c rs (session_after a) text l.long l.begins id
  session_after (then_all c rs a text l) = claims.after_all c rs (session_after a) text l.long l.begins
  session_after (then_list c rs a text l ids) =
      let d : Call = on_session.request_list c s text ids in
      subst (λ (q : List Req). claims.After p modes s n d (rs ++ q)) (ap (λ (k : ℕ). claims.singles_for (length text) k (ids_in ids)) (made_same d) ∙ singles_same (length text) (made on_session d) (ids_in ids))
      (claims.after_list c rs (session_after a) text l.long l.begins (ids_in ids))

  module _ (c : Call) (rs : List Req) (a : claims.After p modes s n c rs) where
    abbrev X : Machine (Ls (Known Names)) Names
    X = machine_in p modes s n

    abbrev T : Table
    T = old.types_in p modes s n

    abbrev S : Sess (Ls (Known Names))
    S = old.ruled p modes s n rs

    lent : (text : List ℕ) → Lent on_session c text → old.Lent c text
    lent text l = record { long = l.long; begins = l.begins }

    tells : (room : ℕ) (d : Call) (b : Answer (Ls (Known Names))) (r : Req) → claims.After p modes s n d (rs ++ (r ∷ [])) → serve X T S r ≡ b.sess → claims.Tells room d b → Tells on_session room d b
    tells room d b r next is t = record {
      number = t.number;
      value = t.value;
      len =
          ((delivered p modes s n).demand2 d (rs ++ (r ∷ [])) next).text_len
          ∙ ap (λ (L : Sess (Ls (Known Names))). length (text_of L.mach.pieces)) (run_more X T rs r _ ∙ is)
          ∙ sym t.value;
      begins = t.begins;
      text = t.text;
    }

    session_demand2 : Demand2 on_session s X T c S
    unfolding serve
    session_demand2 =
        let d = (delivered p modes s n).demand2 c rs a in
        record {
          text = d.text;
          text_len = d.text_len;
          is_open = d.is_open;
          next_one = λ text l id. tells (length text) _ _ (one (length text) id) (claims.after_one c rs a text l.long l.begins id) refl (d.next_type text (lent text l) id);
          next_all = λ text l. tells (length text) _ _ (all (length text)) (claims.after_all c rs a text l.long l.begins) refl (d.next_types text (lent text l));
        }

    adds : (b : Call) (text : List ℕ) (d : Call) → old.AddsNothing b text d → AddsNothing on_session b text d
    unfolding then_zeros
    adds b text d h = record { accepted = h.accepted; text_len = h.text_len; same_text = h.same_text }

    session_again : ListAgain on_session p modes s n c
    session_again o text l ids more x m k z =
        let h = ((delivered p modes s n).twice c rs a).list_again o text (lent text l) (ids_in ids) x k z in
        let listed : List ℕ → Call = λ (xs : List ℕ). calls.list_call c.session s c.work text xs in
        subst (λ (xs : List ℕ). AddsNothing on_session (listed (ids_in ids)) (listed (ids_in ids)).text (listed xs) × (on_session.value (listed xs) ≡ suc (on_session.value (listed (ids_in ids))))) (sym m)
        (adds _ _ _ h.0, h.1)

    session_closed : Closed on_session s c
    unfolding number_of value_of
    session_closed = record {
      later_one = λ o text id. eleven text c.session.text_len _ (type_not_current c.session s c.work text id (closed_stays c.session s c.work text o));
      later_all = λ o text. eleven text c.session.text_len _ (types_not_current c.session s c.work text (closed_stays c.session s c.work text o));
      later_list = λ o text ids l. eleven text 0 _ (list_closed c.session s c.work text ids l o);
    }
      where
        eleven : (text : List ℕ) (v : ℕ) (d : Call) → d ≡ unchanged c.session (Refused 11 v) c.work text → Eleven on_session c text v d
        eleven text v d e = record {
          number = ap (λ (x : Call). number_of x.answer) e;
          returned = ap (λ (x : Call). value_of x.answer) e;
          untouched = record { same_record = ap (λ (x : Call). x.session) e; same_work = ap (λ (x : Call). x.work) e; same_text = ap (λ (x : Call). x.text) e };
        }

  -- the opening that a list starts at was accepted
  pub session_sound : (c : Call) (rs : List Req) → After on_session p modes s n c rs → opening_number p s n ≡ 0
  session_sound c rs a = after_sound p modes s n (session_after a)

  pub session_stated : Stated on_session p modes s n
  session_stated = stated_by on_session p modes s n (λ c rs a. record {
    accepted = session_sound c rs a;
    demand2 = session_demand2 c rs (session_after a);
    closed = session_closed c rs (session_after a);
    list_again = session_again c rs (session_after a);
  })

pub session_opens : Demand1 on_session
session_opens S s p modes work text f = record {
  number = λ y. subst (Numbered p s (length work)) (sym (open_number S s work text p modes)) (numbered p s (length work) y);
  types = λ e. (accepted_opening S s work text p modes e).2;
  clears = λ e. (accepted_opening S s work text p modes e).3;
  no_types = λ e. none (eqb (opening_number p s (length work)) 0) refl e;
  untouched = λ e.
      let r = refused_opening S s work text p modes e in
      record { same_record = r.0; same_work = r.1; same_text = r.2 };
}
  where
    none : (b : Bool) → eqb (opening_number p s (length work)) 0 ≡ b → (number_of (calls_of.open_call S s work text p modes).answer ≡ 0 → ⊥) → value_of (calls_of.open_call S s work text p modes).answer ≡ 0
    none true q e = absurd (e (open_number S s work text p modes ∙ eqb-true (opening_number p s (length work)) 0 q))
    none false q e = opened_none S s work text p modes q

-- ---- the calls for C

pub export_is : (n : ℕ) (r w t : List ℕ) → export_of n r w t ≡ record { result = n; bytes = r; work = w; text = t }
unfolding export_of
export_is n r w t = refl

module _ (p modes : ℕ) (s : List ℕ) (n : ℕ) where
  abbrev lent_c : (e : Export) (text : List ℕ) → Lent for_c e text → for-c.LentC e text
  lent_c e text l = record { long = l.long; begins = l.begins }

  pub c_after : {e : Export} {rs : List Req} → After for_c p modes s n e rs → for-c.AfterC p modes s n e rs
  unfolding calls.ids_in ids_in made for-c.made_in
  c_after (opened r work text z q) = for-c.opened_c r work text z q
  c_after (then_one e rs a text l id) = for-c.one_c e rs (c_after a) text (lent_c e text l) id
  c_after (then_all e rs a text l) = for-c.all_c e rs (c_after a) text (lent_c e text l)
  c_after (then_list e rs a text l ids) =
      subst (λ (q : List Req). for-c.AfterC p modes s n (for-c.called_list s e text ids) (rs ++ q)) (singles_same (length text) (for-c.made_in (for-c.called_list s e text ids)) (calls.ids_in ids))
      (for-c.list_c e rs (c_after a) text (lent_c e text l) ids)

  tells_c : (room : ℕ) (e : Export) (b : Answer (Ls (Known Names))) → for-c.TellsC room e b → Tells for_c room e b
  tells_c room e b t = record { number = t.number; value = t.value; len = t.len; begins = t.begins; text = t.text }

  adds_c : (b : Export) (text : List ℕ) (e : Export) → for-c.AddsNothingC b text e → AddsNothing for_c b text e
  unfolding then_zeros
  adds_c b text e h = record { accepted = h.accepted; text_len = h.text_len; same_text = h.same_text }

  module _ (e : Export) (rs : List Req) (a : for-c.AfterC p modes s n e rs) where
    c_demand2 : Demand2 for_c s (machine_in p modes s n) (old.types_in p modes s n) e (old.ruled p modes s n rs)
    c_demand2 =
        let d = (delivered_c p modes s n).demand2 e rs a in
        record {
          text = d.text;
          text_len = d.text_len;
          is_open = d.is_open;
          next_one = λ text l id. tells_c (length text) _ _ (d.next_one text (lent_c e text l) id);
          next_all = λ text l. tells_c (length text) _ _ (d.next_all text (lent_c e text l));
        }

    c_closed : Closed for_c s e
    unfolding calls.ids_in ids_in
    c_closed =
        let d = (delivered_c p modes s n).demand2 e rs a in
        record {
          later_one = λ o text id. eleven text (for_c.len e) small _ (d.later_one o text id);
          later_all = λ o text. eleven text (for_c.len e) small _ (d.later_all o text);
          later_list = λ o text ids l. eleven text 0 (omega arith) _ (d.later_list o text ids l);
        }
      where
        small : for_c.len e < 4294967296
        small =
            let told = ((delivered_c p modes s n).same_calls e rs a).told_after in
            omega (arith, (after_holds p modes s n (after_sound p modes s n told) told).small)

        eleven : (text : List ℕ) (v : ℕ) → v < 4294967296 → (x : Export) → x ≡ export_of (11 * 4294967296 + v) e.bytes e.work text → Eleven for_c e text v x
        eleven text v q x h =
            let f : x ≡ record { result = 11 * 4294967296 + v; bytes = e.bytes; work = e.work; text = text } = h ∙ export_is (11 * 4294967296 + v) e.bytes e.work text in
            let a : (11 * 4294967296 + v) / 4294967296 ≡ 11 = omega arith in
            let b : (11 * 4294967296 + v) % 4294967296 ≡ v = omega arith in
            record {
              number = ap (λ (z : Export). z.result / 4294967296) f ∙ a;
              returned = ap (λ (z : Export). z.result % 4294967296) f ∙ b;
              untouched = record { same_record = ap (λ (z : Export). z.bytes) f; same_work = ap (λ (z : Export). z.work) f; same_text = ap (λ (z : Export). z.text) f };
            }

    c_again : ListAgain for_c p modes s n e
    unfolding calls.ids_in ids_in
    c_again o text l ids more x m k z =
        let h = ((delivered_c p modes s n).twice e rs a).list_again o text (lent_c e text l) ids more x m k z in
        (adds_c _ _ _ h.0, h.1)

  pub c_sound : (e : Export) (rs : List Req) → After for_c p modes s n e rs → opening_number p s n ≡ 0
  c_sound e rs a = after_sound p modes s n ((delivered_c p modes s n).same_calls e rs (c_after a)).told_after

  pub c_stated : Stated for_c p modes s n
  c_stated = stated_by for_c p modes s n (λ e rs a. record {
    accepted = c_sound e rs a;
    demand2 = c_demand2 e rs (c_after a);
    closed = c_closed e rs (c_after a);
    list_again = c_again e rs (c_after a);
  })

pub c_opens : Demand1 for_c
c_opens r s p modes work text f = record {
  number = λ y. subst (Numbered p s (length work)) (sym o.number) (numbered p s (length work) y);
  types = λ e. (o.accepted (sym o.number ∙ e)).0;
  clears = λ e. (o.accepted (sym o.number ∙ e)).1;
  no_types = λ e. ap (λ (x : Export). x.result % 4294967296) (is e) ∙ whole;
  untouched = λ e. record { same_record = ap (λ (x : Export). x.bytes) (is e); same_work = ap (λ (x : Export). x.work) (is e); same_text = ap (λ (x : Export). x.text) (is e) };
}
  where
    o : for-c.OpensC p modes s r work text
    o = (delivered_c p modes s (length work)).opens r work text (leb-true 128 (length r) f)

    is : (for_c.number (for_c.opening r s p modes work text) ≡ 0 → ⊥)
        → for_c.opening r s p modes work text ≡ record { result = opening_number p s (length work) * 4294967296; bytes = r; work = work; text = text }
    is e = o.refused (λ z. e (o.number ∙ z)) ∙ export_is (opening_number p s (length work) * 4294967296) r work text

    whole : opening_number p s (length work) * 4294967296 % 4294967296 ≡ 0
    whole = omega arith

-- THE THEOREM: demands 2 and 3 hold of the calls for C, whatever the section that opening accepts, the calls and the slices. Assumes nothing.
use Prim.Native.Nat.{ℕ, zero, suc, ◌+◌, ◌-◌, ◌/◌, ◌<◌, ◌≤◌}
use mathlib.Core.Path.{◌≡◌, refl, ap, ◌∙◌, sym, subst}
use mathlib.Core.Bool.{true, ◌||◌}
use mathlib.Core.List.{List, [], ◌∷◌, ◌++◌}
use mathlib.Core.Logic.{◌↔◌, ⊎_elim}
use native.Mathlib.Omega.{arith}
use lib.Dec.{eqb}
use lib.ListN.{length, take}
use Rattle.std.proofs.lemmas.Bool.{cases_lt}
use Rattle.spec_bytes.specs.words.Words.{pick}
use Rattle.spec_c_dumper.specs.rules.Names.{Names}
use Rattle.spec_c_dumper.specs.rules.Machine.{Answer, Req, one, all}
use Rattle.spec_opening.specs.Causes.{opening_number}
use Rattle.spec_session.specs.session.Answers.{number_of, value_of}
use Rattle.spec_session.specs.session.Turns.{Call}
use Rattle.spec_session.specs.calls.Calls.{type_call, types_call}
use Rattle.spec_session.specs.calls.Lists.{ids_in, list_call, count_in}
use Rattle.spec_session.proofs.calls.Claims.{number_is, value_is}
use Rattle.spec_session.proofs.calls.Lists.{ids_from, count_few, count_many, ids_all}
use Rattle.spec_c_dumper.specs.needs.Needs.{MeetsTwice}
use Rattle.spec_c_dumper.specs.needs.Lists.{Ls}
use Rattle.spec_c_dumper.specs.needs.Session.{Known}
use Rattle.proof_demands.specs.demands.Session as spec
use Rattle.proof_demands.specs.demands.Session.{singles_for, made, After, after_open, after_one, after_all, after_list}
use Rattle.proof_demands.specs.demands.Demands.{Lent, AddsNothing, types_in, ruled, Demand2, Demand3Calls, Twice}
use Rattle.proof_demands.proofs.demands.Session.{after_holds}
use Rattle.proof_demands.proofs.demands.Demands.{after_sound, delivered}
use Rattle.session_record.specs.record_words.Words.{decoded}
use Rattle.spec_c_calls.specs.Exports.{Export, open_export, list_export}
use Rattle.proof_calls.specs.calls_for_c.Claims.{number_in, value_in, open_in, told, LentC, called_one, called_all, called_list, made_in, AfterC, opened_c, one_c, all_c, list_c, TellsC, AddsNothingC, one_by_rules, all_by_rules, SameCalls, Demand2C, Demand3C, TwiceC, DeliveredC}
use Rattle.proof_calls.proofs.calls_for_c.Visits.{type_fit, types_fit}
use Rattle.proof_calls.proofs.calls_for_c.Bytes.{Sound, Tells, type_told, types_told, list_told, type_later, types_later, list_later}
use Rattle.proof_calls.proofs.calls_for_c.Opened.{accepted, open_told, opens_c}

-- ---- no list of ids has more than 4,294,967,295
from_length : (b : List ℕ) (k n : ℕ) → length (ids_from b k n) ≡ n
unfolding ids_from
from_length b k zero = refl
from_length b k (suc n) = ap suc (from_length b (suc k) n)

count_most : (b : List ℕ) → count_in b ≤ 4294967295
count_most b = ⊎_elim (λ l. omega (arith, count_many b l)) (λ l. omega (arith, count_few b l)) (cases_lt 4294967295 (length b / 4))

ids_few : (b : List ℕ) → 0 + length (ids_in b) < 4294967296
ids_few b = omega (arith, ap length (ids_all b), from_length b 0 (count_in b), count_most b)

-- ---- number and value of what an export tells
number_told : (e : Export) → number_of (told e).answer ≡ number_in e
number_told e = number_is (number_in e) (value_in e)

value_told : (e : Export) → value_of (told e).answer ≡ value_in e
value_told e = value_is (number_in e) (value_in e)

made_told : (e : Export) → made 0 (told e) ≡ made_in e
unfolding made made_in
made_told e =
    let z : value_of (told e).answer - 0 ≡ value_in e = omega (arith, value_told e) in
    λ i. z i + pick (eqb (number_told e i) 0 || eqb (number_told e i) 11) 0 1

-- e tells a call whose answer is its text length
tells_c : (room : ℕ) (e : Export) (a : Answer (Ls (Known Names))) (c : Call) → told e ≡ c → value_of c.answer ≡ c.session.text_len → spec.Tells room c a → TellsC room e a
tells_c room e a c is v t = let h : spec.Tells room (told e) a = subst (λ (d : Call). spec.Tells room d a) (sym is) t in record {
  number = sym (number_told e) ∙ h.number;
  value = sym (value_told e) ∙ h.value;
  len = sym (subst (λ (d : Call). value_of d.answer ≡ d.session.text_len) (sym is) v) ∙ value_told e;
  begins = ap (λ (k : ℕ). take k e.text) (sym (value_told e)) ∙ h.begins;
  text = h.text;
}

adds_c : (before : Export) (text : List ℕ) (e : Export) → AddsNothing (told before) text (told e) → AddsNothingC before text e
adds_c before text e h = record { accepted = sym (number_told e) ∙ h.accepted; text_len = h.text_len; same_text = h.same_text }

lent : (e : Export) (text : List ℕ) → LentC e text → Lent (told e) text
lent e text l = record { long = l.long; begins = l.begins }

module _ (p modes : ℕ) (s : List ℕ) (n : ℕ) where
  -- what the last call left tells a session after the same requests
  record Carried (e : Export) (rs : List Req) : Type 0 where
    told_after : After p modes s n (told e) rs
    sound : Sound e.bytes

  -- ---- the next call
  module _ (e : Export) (rs : List Req) (h : Carried e rs) (text : List ℕ) (l : LentC e text) where
    ok : opening_number p s n ≡ 0
    ok = after_sound p modes s n h.told_after

    one_told : (id : ℕ) → Tells (called_one s e text id) (type_call (decoded e.bytes) s e.work text id)
    one_told id = type_told p modes s n ok e.bytes e.work e.text (ruled p modes s n rs) (after_holds p modes s n ok h.told_after) h.sound text l.long l.begins id

    all_told : Tells (called_all s e text) (types_call (decoded e.bytes) s e.work text)
    all_told = types_told p modes s n ok e.bytes e.work e.text (ruled p modes s n rs) (after_holds p modes s n ok h.told_after) h.sound text l.long l.begins

    ids_told : (ids : List ℕ) → Tells (called_list s e text ids) (list_call (decoded e.bytes) s e.work text (ids_in ids))
    unfolding list_export list_call
    ids_told ids =
        list_told p modes s n ok (ids_in ids) 0 (ids_few ids) e.bytes e.work e.text (ruled p modes s n rs) (after_holds p modes s n ok h.told_after) h.sound text l.long l.begins

  carried : (e : Export) (c : Call) (rs : List Req) → Tells e c → After p modes s n c rs → Carried e rs
  carried e c rs t a = record { told_after = subst (λ (d : Call). After p modes s n d rs) (sym t.is) a; sound = t.sound }

  carry : {e : Export} {rs : List Req} → AfterC p modes s n e rs → Carried e rs
  carry (opened_c r work text z q) =
      carried (open_export r s p modes work text) _ [] (open_told r s work text p modes q) (after_open (decoded r) work text z (accepted r s work text p modes q))
  carry (one_c e rs a text l id) =
      carried (called_one s e text id) _ (rs ++ (one (length text) id ∷ [])) (one_told e rs (carry a) text l id)
      (after_one (told e) rs (carry a).told_after text l.long l.begins id)
  carry (all_c e rs a text l) =
      carried (called_all s e text) _ (rs ++ (all (length text) ∷ [])) (all_told e rs (carry a) text l) (after_all (told e) rs (carry a).told_after text l.long l.begins)
  carry (list_c e rs a text l ids) =
      let d : Export = called_list s e text ids in
      let t : Tells d (list_call (decoded e.bytes) s e.work text (ids_in ids)) = ids_told e rs (carry a) text l ids in
      carried d _ (rs ++ singles_for (length text) (made_in d) (ids_in ids)) t
      (subst (λ (k : ℕ). After p modes s n (list_call (decoded e.bytes) s e.work text (ids_in ids)) (rs ++ singles_for (length text) k (ids_in ids))) (ap (made 0) (sym t.is) ∙ made_told d)
      (after_list (told e) rs (carry a).told_after text l.long l.begins (ids_in ids)))

  -- the record is long enough for the next call
  pub record_long : {e : Export} {rs : List Req} → AfterC p modes s n e rs → 128 ≤ length e.bytes
  record_long a = (carry a).sound.long

  -- ---- the demands
  module _ (e : Export) (rs : List Req) (h : Carried e rs) where
    demand2 : Demand2 p modes s n (told e) rs
    demand2 = (delivered p modes s n).demand2 (told e) rs h.told_after

    demand3 : Demand3Calls p modes s n (told e) rs
    demand3 = (delivered p modes s n).demand3 (told e) rs h.told_after

    twice : Twice p modes s n (told e) rs
    twice = (delivered p modes s n).twice (told e) rs h.told_after

    same_calls : SameCalls p modes s n e rs
    same_calls = record {
      told_after = h.told_after;
      next_one = λ text l id. (one_told e rs h text l id).is;
      next_all = λ text l. (all_told e rs h text l).is;
      next_list = λ text l ids. (ids_told e rs h text l ids).is;
    }

    demand2_c : Demand2C p modes s n e rs
    demand2_c = record {
      text = demand2.text;
      text_len = demand2.text_len;
      is_open = demand2.is_open;
      next_one = λ text l id.
          tells_c (length text) (called_one s e text id) (one_by_rules p modes s n (length text) rs id) _ (one_told e rs h text l id).is
          (type_fit (decoded e.bytes) s e.work text h.sound.few id).value_same (demand2.next_type text (lent e text l) id);
      next_all = λ text l.
          tells_c (length text) (called_all s e text) (all_by_rules p modes s n (length text) rs) _ (all_told e rs h text l).is
          (types_fit (decoded e.bytes) s e.work text h.sound.few).value_same (demand2.next_types text (lent e text l));
      later_one = λ o text id. type_later e.bytes s e.work text h.sound.long o id;
      later_all = λ o text. types_later e.bytes s e.work text h.sound.long o;
      later_list = λ o text ids m. list_later e.bytes s e.work text h.sound.long o ids m (omega (arith, (after_holds p modes s n (after_sound p modes s n h.told_after) h.told_after).small));
    }

    demand3_c : Demand3C p modes s n e rs
    demand3_c = record {
      text = demand3.text;
      pieces = demand3.pieces;
      bodies = demand3.bodies;
      cycles = λ o text l id below named deep.
          subst (λ (k : ℕ). (k ≡ 13) ↔ MeetsTwice (types_in p modes s n) id)
          (ap (λ (c : Call). number_of c.answer) (sym (one_told e rs h text l id).is) ∙ number_told (called_one s e text id))
          (demand3.cycles o text (lent e text l) id below named deep);
    }

    -- ---- an id given twice
    module _ (o : open_in e ≡ true) (text : List ℕ) (l : LentC e text) where
      again : (x : ℕ) → AddsNothing (told e) text (type_call (decoded e.bytes) s e.work text x) → AddsNothingC e text (called_one s e text x)
      again x q = adds_c e text (called_one s e text x) (subst (AddsNothing (told e) text) (sym (one_told e rs h text l x).is) q)

      abbrev listed : List ℕ → Export
      listed = called_list s e text

      abbrev calls : List ℕ → Call
      calls ids = list_call (decoded e.bytes) s e.work text ids

      abbrev Adds : Call → Call → Type 0
      Adds b c = AddsNothing b b.text c × (value_of c.answer ≡ suc (value_of b.answer))

      list_again : (ids more : List ℕ) (x : ℕ) → ids_in more ≡ ids_in ids ++ (x ∷ []) → Adds (calls (ids_in ids)) (calls (ids_in ids ++ (x ∷ [])))
          → AddsNothingC (listed ids) (listed ids).text (listed more) × (value_in (listed more) ≡ suc (value_in (listed ids)))
      list_again ids more x m q =
          let told_both : Adds (told (listed ids)) (told (listed more)) =
          subst (λ (b : Call). Adds b (told (listed more))) (sym (ids_told e rs h text l ids).is)
          (subst (λ (c : Call). Adds (calls (ids_in ids)) c) (ap calls (sym m) ∙ sym (ids_told e rs h text l more).is) q) in
          (adds_c (listed ids) (listed ids).text (listed more) told_both.0, sym (value_told (listed more)) ∙ told_both.1 ∙ ap suc (value_told (listed ids)))

      list_accepted : (ids : List ℕ) → number_in (listed ids) ≡ 0 → number_of (calls (ids_in ids)).answer ≡ 0
      list_accepted ids z = ap (λ (c : Call). number_of c.answer) (sym (ids_told e rs h text l ids).is) ∙ number_told (listed ids) ∙ z

    twice_c : TwiceC p modes s n e rs
    twice_c = record {
      single_again = λ o x k text l. again o text l x (twice.single_again o x k text (lent e text l));
      list_again = λ o text l ids more x m k z. list_again o text l ids more x m (twice.list_again o text (lent e text l) (ids_in ids) x k (list_accepted o text l ids z));
    }

pub delivered_c : (p modes : ℕ) (s : List ℕ) (n : ℕ) → DeliveredC p modes s n
delivered_c p modes s n = record {
  opens = λ r work text h. opens_c r s work text p modes h;
  same_calls = λ e rs a. same_calls p modes s n e rs (carry p modes s n a);
  demand2 = λ e rs a. demand2_c p modes s n e rs (carry p modes s n a);
  demand3 = λ e rs a. demand3_c p modes s n e rs (carry p modes s n a);
  twice = λ e rs a. twice_c p modes s n e rs (carry p modes s n a);
}

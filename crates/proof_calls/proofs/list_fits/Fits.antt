-- A list of ids with one list of entries, without its entries: `list_call`, unless the list is too short. Of all inputs; assumes nothing.
use Prim.Native.Nat.{ℕ, zero, suc, ◌+◌, ◌-◌, ◌*◌, ◌<◌, ◌≤◌}
use mathlib.Core.Path.{◌≡◌, refl, ap, ◌∙◌, sym, subst}
use mathlib.Core.Bool.{Bool, true, false, true≢false}
use mathlib.Core.List.{List, [], ◌∷◌, ◌++◌, append-nil}
use mathlib.Core.Logic.{⊎_elim}
use native.Mathlib.Omega.{arith}
use lib.ListN.{length, take, drop, length-append, length-drop, take-append-drop}
use Rattle.std.proofs.lemmas.Bool.{cases_lt}
use Rattle.spec_session.specs.declared.session.Session.{Session}
use Rattle.spec_session.specs.session.Answers.{number_of, answer_of}
use Rattle.spec_session.specs.session.Turns.{Call, call_of}
use Rattle.spec_session.specs.calls.Calls.{type_call}
use Rattle.spec_session.specs.calls.Lists.{then_next, list_from, list_call}
use Rattle.spec_c_dumper.specs.origins.Causes.{Entry, entries_in}
use Rattle.spec_c_dumper.specs.origins.Claims.{Listed}
use Rattle.spec_session.specs.origin_calls.Bytes.{CauseCall, type_causes, CauseFits}
use Rattle.spec_session.proofs.origin_calls.Bytes.{type_fits}
use Rattle.spec_c_dumper.proofs.origins.Listed.{listed_fits, listed_both}
use Rattle.spec_session.specs.origin_calls.Several.{front, go_on, list_from_causes, list_causes_call}
use Rattle.proof_calls.proofs.list_fits.Entries.{quiet}

-- the claim, and that a call that leaves the list alone has no entries
record Fits (plainly : Call) (F : List ℕ → CauseCall) : Type 0 where
  fits : CauseFits plainly F
  none : fits.zeroed ≡ false → fits.entries ≡ []

-- ---- one id, and what follows it. c: the plain request; P, I: what follows, plainly and with entries
module _ (n : ℕ) (c : Call) (G : List ℕ → CauseCall) (h : CauseFits c G) (quieted : h.zeroed ≡ false → (h.entries ≡ []) × (number_of c.answer ≡ 0 → ⊥)) (P : Call → Call) (I : Call → List ℕ → CauseCall) (q : Fits (P c) (I c)) where
  abbrev next : CauseCall → CauseCall
  next d = I d.call (drop (d.count * 12) d.list)

  abbrev F : List ℕ → CauseCall
  F l = go_on n (G l) next

  abbrev stopped_at : ℕ → CauseCall → CauseCall
  stopped_at m d = record { call = call_of d.call.session (answer_of (suc m) n) d.call.work d.call.text; count = d.count; list = d.list }

  goes : (d : CauseCall) → number_of d.call.answer ≡ 0 → go_on n d next ≡ front d.count (take (d.count * 12) d.list) (next d)
  unfolding go_on
  goes d e = ap (λ (x : ℕ). elim x as (λ (y : ℕ). CauseCall) [ zero ↦ front d.count (take (d.count * 12) d.list) (next d) | suc m ↦ stopped_at m d ]) e

  stops : (d : CauseCall) (m : ℕ) → number_of d.call.answer ≡ suc m → go_on n d next ≡ stopped_at m d
  unfolding go_on
  stops d m e = ap (λ (x : ℕ). elim x as (λ (y : ℕ). CauseCall) [ zero ↦ front d.count (take (d.count * 12) d.list) (next d) | suc m ↦ stopped_at m d ]) e

  plain_goes : number_of c.answer ≡ 0 → then_next n c P ≡ P c
  unfolding then_next
  plain_goes e = ap (λ (x : ℕ). elim x as (λ (y : ℕ). Call) [ zero ↦ P c | suc m ↦ call_of c.session (answer_of (suc m) n) c.work c.text ]) e

  plain_stops : (m : ℕ) → number_of c.answer ≡ suc m → then_next n c P ≡ call_of c.session (answer_of (suc m) n) c.work c.text
  unfolding then_next
  plain_stops m e = ap (λ (x : ℕ). elim x as (λ (y : ℕ). Call) [ zero ↦ P c | suc m ↦ call_of c.session (answer_of (suc m) n) c.work c.text ]) e

  number_is : (x : ℕ) → number_of c.answer ≡ x → (l : List ℕ) → h.need ≤ entries_in l → number_of (G l).call.answer ≡ x
  number_is x e l r = ap (λ (d : Call). number_of d.answer) (h.same l r) ∙ e

  -- too short for the first id
  short_first : (l : List ℕ) → entries_in l < h.need → number_of (F l).call.answer ≡ 17
  unfolding number_of answer_of call_of
  short_first l r = ap (λ (d : CauseCall). number_of d.call.answer) (stops (G l) 16 (h.short l r))

  refused_fits : (m : ℕ) → number_of c.answer ≡ suc m → Fits (then_next n c P) F
  refused_fits m e = record {
    fits = record {
      need = h.need;
      entries = h.entries;
      zeroed = h.zeroed;
      same = λ l r. ap (λ (d : CauseCall). d.call) (stops (G l) m (number_is (suc m) e l r)) ∙ ap (λ (d : Call). call_of d.session (answer_of (suc m) n) d.work d.text) (h.same l r) ∙ sym (plain_stops m e);
      counts = λ l r. ap (λ (d : CauseCall). d.count) (stops (G l) m (number_is (suc m) e l r)) ∙ h.counts l r;
      lists = λ z l r. subst (λ (d : CauseCall). Listed (length l) h.entries d.list) (sym (stops (G l) m (number_is (suc m) e l r))) (h.lists z l r);
      leaves = λ z l. ⊎_elim (λ r. ap (λ (d : CauseCall). d.list) (stops (G l) 16 (h.short l r)) ∙ h.leaves z l) (λ r. ap (λ (d : CauseCall). d.list) (stops (G l) m (number_is (suc m) e l r)) ∙ h.leaves z l) (cases_lt (entries_in l) h.need);
      short = short_first;
    };
    none = λ z. (quieted z).0;
  }

  -- ---- accepted: the entries of both
  module _ (e : number_of c.answer ≡ 0) where
    abbrev es : List Entry
    es = h.entries

    abbrev fs : List Entry
    fs = q.fits.entries

    filled_is : h.zeroed ≡ true
    filled_is = go h.zeroed refl
      where
        go : (b : Bool) → h.zeroed ≡ b → h.zeroed ≡ true
        go true z = z
        go false z = absurd ((quieted z).1 e)

    abbrev rest : List ℕ → List ℕ
    rest l = drop (length es * 12) (G l).list

    module _ (l : List ℕ) (r : h.need ≤ entries_in l) where
      whole : F l ≡ front (length es) (take (length es * 12) (G l).list) (I c (rest l))
      whole = goes (G l) (number_is 0 e l r) ∙ (λ i. front (h.counts l r i) (take (h.counts l r i * 12) (G l).list) (I (h.same l r i) (drop (h.counts l r i * 12) (G l).list)))

      lies : Listed (length l) es (G l).list
      lies = h.lists filled_is l r

      rest_length : length (rest l) ≡ length l - length es * 12
      rest_length = length-drop (length es * 12) (G l).list ∙ ap (λ (x : ℕ). x - length es * 12) lies.size

      rest_room : entries_in (rest l) ≡ entries_in l - length es
      rest_room = let a : length (rest l) ≡ length l - length es * 12 = rest_length in let b : 12 * length es ≤ length l = listed_fits (length l) es (G l).list lies in omega arith

      listed_next : (b : Bool) → q.fits.zeroed ≡ b → q.fits.need ≤ entries_in (rest l) → Listed (length l) (es ++ fs) (take (length es * 12) (G l).list ++ (I c (rest l)).list)
      listed_next true z k = listed_both (length l) es (G l).list lies (length (rest l)) rest_length fs (I c (rest l)).list (q.fits.lists z (rest l) k)
      listed_next false z k =
          subst (λ (x : List ℕ). Listed (length l) (es ++ fs) x) (sym (ap (λ (x : List ℕ). take (length es * 12) (G l).list ++ x) (q.fits.leaves z (rest l)) ∙ take-append-drop (length es * 12) (G l).list))
          (subst (λ (x : List Entry). Listed (length l) x (G l).list) (sym (ap (λ (x : List Entry). es ++ x) (q.none z) ∙ append-nil es)) lies)

    -- N: what both need
    module _ (N : ℕ) (first : h.need ≤ N) (after : length es + q.fits.need ≤ N) (least : (x : ℕ) → h.need ≤ x → x < N → x < length es + q.fits.need) where
      room_first : (l : List ℕ) → N ≤ entries_in l → h.need ≤ entries_in l
      room_first l r = omega arith

      room_after : (l : List ℕ) → N ≤ entries_in l → q.fits.need ≤ entries_in (rest l)
      room_after l r = let a : entries_in (rest l) ≡ entries_in l - length es = rest_room l (room_first l r) in subst (λ (x : ℕ). q.fits.need ≤ x) (sym a) (omega arith)

      short_after : (l : List ℕ) → entries_in l < N → h.need ≤ entries_in l → number_of (F l).call.answer ≡ 17
      short_after l r f =
          let a : entries_in (rest l) ≡ entries_in l - length es = rest_room l f in
          let b : 12 * length es ≤ length l = listed_fits (length l) es (G l).list (lies l f) in
          let k : entries_in l < length es + q.fits.need = least (entries_in l) f r in
          ap (λ (d : CauseCall). number_of d.call.answer) (whole l f) ∙ q.fits.short (rest l) (subst (λ (x : ℕ). x < q.fits.need) (sym a) (omega arith))

      accepted_by : Fits (then_next n c P) F
      accepted_by = record {
        fits = record {
          need = N;
          entries = es ++ fs;
          zeroed = true;
          same = λ l r. ap (λ (d : CauseCall). d.call) (whole l (room_first l r)) ∙ q.fits.same (rest l) (room_after l r) ∙ sym (plain_goes e);
          counts = λ l r. ap (λ (d : CauseCall). d.count) (whole l (room_first l r)) ∙ ap (λ (x : ℕ). length es + x) (q.fits.counts (rest l) (room_after l r)) ∙ sym (length-append es fs);
          lists = λ z l r. subst (λ (d : CauseCall). Listed (length l) (es ++ fs) d.list) (sym (whole l (room_first l r))) (listed_next l (room_first l r) q.fits.zeroed refl (room_after l r));
          leaves = λ z. absurd (true≢false z);
          short = λ l r. ⊎_elim (short_first l) (short_after l r) (cases_lt (entries_in l) h.need);
        };
        none = λ z. absurd (true≢false z);
      }

    accepted_fits : Fits (then_next n c P) F
    accepted_fits = ⊎_elim
        (λ k. accepted_by h.need (omega arith) (omega arith) (λ x a b. absurd (omega arith)))
        (λ k. accepted_by (length es + q.fits.need) k (omega arith) (λ x a b. b))
        (cases_lt (length es + q.fits.need) h.need)

  one_more : Fits (then_next n c P) F
  one_more = go (number_of c.answer) refl
    where
      go : (x : ℕ) → number_of c.answer ≡ x → Fits (then_next n c P) F
      go zero e = accepted_fits e
      go (suc m) e = refused_fits m e

from_fits : (section : List ℕ) (ids : List ℕ) (n : ℕ) (s : Session) (work text : List ℕ) → Fits (list_from n s section work text ids) (λ l. list_from_causes n s section work text l ids)
unfolding list_from list_from_causes
from_fits section [] n s work text = record {
  fits = record { need = 0; entries = []; zeroed = false; same = λ l r. refl; counts = λ l r. refl; lists = λ z. absurd (true≢false (sym z)); leaves = λ z l. refl; short = λ l r. absurd (omega arith) };
  none = λ z. refl;
}
from_fits section (id ∷ ids) n s work text =
    one_more n (type_call s section work text id) (λ l. type_causes s section work text id l) (type_fits s section work text id) (quiet s section work text id)
    (λ c. list_from (suc n) c.session section c.work c.text ids) (λ c l. list_from_causes (suc n) c.session section c.work c.text l ids)
    (from_fits section ids (suc n) (type_call s section work text id).session (type_call s section work text id).work (type_call s section work text id).text)

-- THE THEOREM, of all inputs: with a list that has room, `list_causes_call` is `list_call` beside the entries; with a shorter one it is 17
pub list_fits : (s : Session) (section work text ids : List ℕ) → CauseFits (list_call s section work text ids) (λ l. list_causes_call s section work text ids l)
unfolding list_call list_causes_call
list_fits s section work text ids = (from_fits section ids 0 s work text).fits

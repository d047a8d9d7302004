-- A closed session gives 11, whatever the ceiling. Assumes nothing.
use Prim.Native.Nat.{ℕ}
use mathlib.Core.Path.{◌≡◌, refl, ap, ◌∙◌}
use mathlib.Core.Bool.{false}
use mathlib.Core.List.{List, [], ◌∷◌}
use native.Mathlib.Omega.{arith}
use lib.ListN.{length}
use Rattle.spec_session.specs.session.Answers.{Refused, number_of, answer_of}
use Rattle.spec_session.specs.declared.session.Session.{Session}
use Rattle.spec_session.specs.session.Turns.{Call, call_of, unchanged, is_current}
use Rattle.spec_session.specs.calls.Calls.{type_call, types_call}
use Rattle.spec_session.specs.calls.Lists.{then_next, list_from, list_call}
use Rattle.spec_session.proofs.calls.Claims.{type_not_current, types_not_current, closed_stays}
use Rattle.spec_session.proofs.calls.Lists.{counted_stops}
use Rattle.spec_session.specs.metered.Within.{CallWithin, type_call_within, types_call_within}
use Rattle.spec_session.specs.metered.Lists.{list_from_within, list_call_within}
use Rattle.spec_session.proofs.metered.Laws.{counted_stops as within_stops}
use Rattle.proof_calls.specs.ceilings.Ceilings.{Ceiling, none, up_to, type_under, types_under, list_under, eleven_of}

module _ (s : List ℕ) (S : Session) (w : List ℕ) (off : S.«open» ≡ false) where
  pub type_shut : (text : List ℕ) (l : Ceiling) (id : ℕ) → type_under l S s w text id ≡ unchanged S (Refused 11 S.text_len) w text
  unfolding type_call_within type_call
  type_shut text none id = type_not_current S s w text id (closed_stays S s w text off)
  type_shut text (up_to k) id =
      let e : is_current S (length s) (length w) (length text) ≡ false = closed_stays S s w text off in
      let r : (type_call_within k S s w text id 0).call ≡ type_call S s w text id = rw (e, type_call_within, type_call) refl in
      r ∙ type_not_current S s w text id e

  pub types_shut : (text : List ℕ) (l : Ceiling) → types_under l S s w text ≡ unchanged S (Refused 11 S.text_len) w text
  unfolding types_call_within types_call
  types_shut text none = types_not_current S s w text (closed_stays S s w text off)
  types_shut text (up_to k) =
      let e : is_current S (length s) (length w) (length text) ≡ false = closed_stays S s w text off in
      let r : (types_call_within k S s w text).call ≡ types_call S s w text = rw (e, types_call_within, types_call) refl in
      r ∙ types_not_current S s w text e

  pub list_shut : (text : List ℕ) (l : Ceiling) (ids : List ℕ) → list_under l S s w text ids ≡ unchanged S (eleven_of ids) w text
  unfolding list_call list_from list_call_within list_from_within call_of number_of answer_of
  list_shut text none [] = refl
  list_shut text none (x ∷ ids) =
      let rest : Call → Call = λ c. list_from 1 c.session s c.work c.text ids in
      ap (λ (y : Call). then_next 0 y rest) (type_shut text none x) ∙ counted_stops 0 11 (unchanged S (Refused 11 S.text_len) w text) rest refl (λ z. absurd (omega arith))
  list_shut text (up_to k) [] = refl
  list_shut text (up_to k) (x ∷ ids) =
      let d : CallWithin = type_call_within k S s w text x 0 in
      let e : d.call ≡ unchanged S (Refused 11 S.text_len) w text = type_shut text (up_to k) x in
      let rest : CallWithin → CallWithin = λ y. list_from_within k 1 y.call.session s y.call.work y.call.text ids y.made in
      ap (λ (y : CallWithin). y.call) (within_stops 0 11 d rest (ap (λ (y : Call). number_of y.answer) e) (λ z. absurd (omega arith)))
      ∙ ap (λ (y : Call). unchanged y.session (Refused 11 0) y.work y.text) e

-- A closed session gives 11, whatever a call carries. Assumes nothing.
use Prim.Native.Nat.{ℕ, zero, suc, ◌*◌}
use mathlib.Core.Path.{◌≡◌, refl, ap, ◌∙◌}
use mathlib.Core.Bool.{false}
use mathlib.Core.List.{List, [], ◌∷◌}
use lib.ListN.{length, take, drop}
use Rattle.spec_session.specs.session.Answers.{Refused, number_of, answer_of}
use Rattle.spec_session.specs.declared.session.Session.{Session}
use Rattle.spec_session.specs.session.Turns.{Call, call_of, unchanged, is_current}
use Rattle.spec_session.specs.calls.Calls.{type_call, types_call}
use Rattle.spec_session.proofs.calls.Claims.{type_not_current, types_not_current, closed_stays}
use Rattle.spec_session.specs.origin_calls.Bytes.{CauseCall, type_causes, types_causes}
use Rattle.spec_session.specs.origin_calls.Several.{front, go_on, list_from_causes, list_causes_call}
use Rattle.proof_calls.specs.ceilings.Ceilings.{none as unlimited, up_to}
use Rattle.proof_calls.specs.ceilings.Ceilings.{eleven_of}
use Rattle.proof_calls.proofs.ceilings.Closed.{type_shut as type_under, types_shut as types_under, list_shut as list_under}
use Rattle.proof_calls.specs.mixed.Mixed.{Aid, none, ceiling, list, type_with, types_with, list_with}

module _ (s : List ℕ) (S : Session) (w : List ℕ) (off : S.«open» ≡ false) where
  pub type_shut : (text : List ℕ) (a : Aid) (id : ℕ) → type_with a S s w text id ≡ unchanged S (Refused 11 S.text_len) w text
  unfolding type_causes type_call
  type_shut text none id = type_under s S w off text unlimited id
  type_shut text (ceiling k) id = type_under s S w off text (up_to k) id
  type_shut text (list l) id =
      let e : is_current S (length s) (length w) (length text) ≡ false = closed_stays S s w text off in
      let r : (type_causes S s w text id l).call ≡ type_call S s w text id = rw (e, type_causes, type_call) refl in
      r ∙ type_not_current S s w text id e

  pub types_shut : (text : List ℕ) (a : Aid) → types_with a S s w text ≡ unchanged S (Refused 11 S.text_len) w text
  unfolding types_causes types_call
  types_shut text none = types_under s S w off text unlimited
  types_shut text (ceiling k) = types_under s S w off text (up_to k)
  types_shut text (list l) =
      let e : is_current S (length s) (length w) (length text) ≡ false = closed_stays S s w text off in
      let r : (types_causes S s w text l).call ≡ types_call S s w text = rw (e, types_causes, types_call) refl in
      r ∙ types_not_current S s w text e

  -- the first id of a list is refused, so none is accepted
  goes_none : (d : CauseCall) (next : CauseCall → CauseCall) → number_of d.call.answer ≡ 11 → (go_on 0 d next).call ≡ call_of d.call.session (answer_of 11 0) d.call.work d.call.text
  unfolding go_on
  goes_none d next e =
      ap (λ (x : ℕ). (elim x as (λ (y : ℕ). CauseCall) [ zero ↦ front d.count (take (d.count * 12) d.list) (next d) | suc m ↦ record { call = call_of d.call.session (answer_of (suc m) 0) d.call.work d.call.text; count = d.count; list = d.list } ]).call) e

  pub list_shut : (text : List ℕ) (a : Aid) (ids : List ℕ) → list_with a S s w text ids ≡ unchanged S (eleven_of ids) w text
  unfolding list_causes_call list_from_causes call_of number_of answer_of
  list_shut text none ids = list_under s S w off text unlimited ids
  list_shut text (ceiling k) ids = list_under s S w off text (up_to k) ids
  list_shut text (list l) [] = refl
  list_shut text (list l) (x ∷ ids) =
      let d : CauseCall = type_causes S s w text x l in
      let e : d.call ≡ unchanged S (Refused 11 S.text_len) w text = type_shut text (list l) x in
      goes_none d (λ y. list_from_causes 1 y.call.session s y.call.work y.call.text (drop (y.count * 12) y.list) ids) (ap (λ (y : Call). number_of y.answer) e)
      ∙ ap (λ (y : Call). unchanged y.session (Refused 11 0) y.work y.text) e

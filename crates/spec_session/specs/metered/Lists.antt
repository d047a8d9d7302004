-- A list of ids under a ceiling: the single requests for them in their order, up to and including the first that is refused; "shared by the
-- single requests of one call". As `list_from` (crates/spec_session/specs/calls/Lists), with the calls made before handed on from each to
-- the next.
use Rattle.std.specs.Prelude.{ℕ, zero, suc, List, [], ◌∷◌}
use Rattle.spec_session.specs.declared.session.Session.{Session}
use Rattle.spec_session.specs.session.Answers.{number_of, answer_of}
use Rattle.spec_session.specs.session.Turns.{call_of}
use Rattle.spec_session.specs.metered.Within.{CallWithin, type_call_within}

-- after n accepted ids, the call for the next: the list goes on from it, or is stopped by its number
unfoldable pub counted_within : ℕ → CallWithin → (CallWithin → CallWithin) → CallWithin
counted_within n d f = elim (number_of d.call.answer) [
  | zero ↦ f d
  | suc m ↦ record { call = call_of d.call.session (answer_of (suc m) n) d.call.work d.call.text; made = d.made }
]

unfoldable pub list_from_within : ℕ → ℕ → Session → List ℕ → List ℕ → List ℕ → List ℕ → ℕ → CallWithin
list_from_within c n s section work text [] k = record { call = call_of s (answer_of 0 n) work text; made = k }
list_from_within c n s section work text (id ∷ ids) k =
    counted_within n (type_call_within c s section work text id k)
    (λ d. list_from_within c (suc n) d.call.session section d.call.work d.call.text ids d.made)

unfoldable pub list_call_within : ℕ → Session → List ℕ → List ℕ → List ℕ → List ℕ → CallWithin
list_call_within c s section work text ids = list_from_within c 0 s section work text ids 0

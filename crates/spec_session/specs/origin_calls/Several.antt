-- A list of ids with one list of entries: the single requests for them in their order, up to and including the first that is refused, each
-- lent session, work and text as the one before left them, and of the list what follows the entries so far.
use Rattle.std.specs.Prelude.{ℕ, zero, suc, ◌+◌, ◌*◌, List, [], ◌∷◌, ◌++◌, take, drop}
use Rattle.spec_session.specs.declared.session.Session.{Session}
use Rattle.spec_session.specs.session.Answers.{number_of, answer_of}
use Rattle.spec_session.specs.session.Turns.{call_of}
use Rattle.spec_session.specs.origin_calls.Bytes.{CauseCall, type_causes}

-- what comes after some entries, which stand in the first bytes of the list
abbrev pub front : ℕ → List ℕ → CauseCall → CauseCall
front count before d = record { call = d.call; count = count + d.count; list = before ++ d.list }

-- after n accepted ids, the call for the next: the list goes on from it, or is stopped by its number; the value is the count of the
-- accepted
unfoldable pub go_on : ℕ → CauseCall → (CauseCall → CauseCall) → CauseCall
go_on n d k =
    elim (number_of d.call.answer) [
      | zero ↦ front d.count (take (d.count * 12) d.list) (k d)
      | suc m ↦ record {
        call = call_of d.call.session (answer_of (suc m) n) d.call.work d.call.text;
        count = d.count;
        list = d.list;
      }
    ]

unfoldable pub list_from_causes : ℕ → Session → List ℕ → List ℕ → List ℕ → List ℕ → List ℕ → CauseCall
list_from_causes n s section work text list [] = record { call = call_of s (answer_of 0 n) work text; count = 0; list = list }
list_from_causes n s section work text list (id ∷ ids) =
    go_on n (type_causes s section work text id list)
    (λ d. list_from_causes (suc n) d.call.session section d.call.work d.call.text (drop (d.count * 12) d.list) ids)

unfoldable pub list_causes_call : Session → List ℕ → List ℕ → List ℕ → List ℕ → List ℕ → CauseCall
list_causes_call s section work text ids list = list_from_causes 0 s section work text list ids

-- A list of ids with its options, and a call by what is wanted. A list is the single requests for them in their order, up to and including
-- the first that is refused, each lent session, work and text as the one before left them, of the list what follows the entries so far, and
-- the calls made before.
use Rattle.std.specs.Prelude.{ℕ, zero, suc, ◌+◌, ◌*◌, Bool, true, false, List, [], ◌∷◌, ◌++◌, length, take, drop, Some}
use Rattle.spec_bytes.specs.declared.refusal.Refusal.TheVariants.{NoSuchId}
use Rattle.spec_session.specs.declared.session.Session.{Session}
use Rattle.spec_session.specs.session.Answers.{number_of, answer_of, stays_open}
use Rattle.spec_session.specs.session.Turns.{call_of, then_zeros}
use Rattle.spec_session.specs.calls.Lists.{ids_in, tailed, list_end}
use Rattle.session_requests.specs.declared.options.Options.{Options}
use Rattle.session_requests.specs.declared.options.Wanted.{Wanted}
use Rattle.session_requests.specs.declared.options.Wanted.TheVariants.{One, All, Ids}
use Rattle.session_requests.specs.options.Counted.{Progress}
use Rattle.session_requests.specs.options.Counted.{Tallied}
use Rattle.session_requests.specs.options.Requests.{CallWith, type_call_with, types_call_with}

-- what comes after some entries, which stand in the first bytes of the list
abbrev pub front_with : ℕ → List ℕ → CallWith → CallWith
front_with count before d = record { call = d.call; count = count + d.count; list = before ++ d.list; made = d.made }

-- after n accepted ids, the call for the next: the list goes on from it, or is stopped by its number; the value is the count of the
-- accepted
unfoldable pub go_on_with : ℕ → CallWith → (CallWith → CallWith) → CallWith
go_on_with n d f =
    elim (number_of d.call.answer) [
      | zero ↦ front_with d.count (take (d.count * 12) d.list) (f d)
      | suc m ↦ record {
        call = call_of d.call.session (answer_of (suc m) n) d.call.work d.call.text;
        count = d.count;
        list = d.list;
        made = d.made;
      }
    ]

unfoldable pub list_from_with : Options → ℕ → Session → List ℕ → List ℕ → List ℕ → List ℕ → List ℕ → ℕ → CallWith
list_from_with o n s section work text list [] k =
    record { call = call_of s (answer_of 0 n) work text; count = 0; list = list; made = k }
list_from_with o n s section work text list (id ∷ ids) k =
    go_on_with n (type_call_with o s section work text id list k)
    (λ d. list_from_with o (suc n) d.call.session section d.call.work d.call.text (drop (d.count * 12) d.list) ids d.made)

unfoldable pub list_call_with : Options → Session → List ℕ → List ℕ → List ℕ → List ℕ → List ℕ → CallWith
list_call_with o s section work text ids list = list_from_with o 0 s section work text list ids 0

-- ---- a call, by what is wanted
abbrev pub call_with : Options → Session → List ℕ → List ℕ → List ℕ → Wanted → List ℕ → CallWith
call_with o s section work text (One id) list = type_call_with o s section work text id list 0
call_with o s section work text All list = types_call_with o s section work text list
call_with o s section work text (Ids ids) list = list_call_with o s section work text (ids_in ids.now) list

-- ---- the code's way: 11 is tested once, and what follows the text and the entries is zeroed once

-- with a list the text is zeroed after each id
unfoldable pub cleared_if : Bool → ℕ → List ℕ → List ℕ
cleared_if true len t = then_zeros (length t) len t
cleared_if false len t = t

-- where the ids of a list have come to, of which so many were accepted; and after an id that is not below the count of types
abbrev pub tally_of : Progress → ℕ → Tallied
tally_of p accepted = record {
  of = record { len = p.of.len; stop = p.of.stop; accepted = accepted; visits = p.of.visits };
  count = p.count;
  made = p.made;
}

abbrev pub unknown_after : Progress → Progress
unknown_after p = record {
  of = record { len = p.of.len; stop = Some NoSuchId; visits = p.of.visits };
  count = p.count;
  made = p.made;
}

-- the list after so many accepted ids, as `tailed` has the text; a refusal that closes the session zeroes what follows the entries
unfoldable pub list_after : Tallied → List ℕ → List ℕ
list_after r l =
    elim (stays_open r.of.stop) [
      | true ↦ tailed r.of.accepted (r.count * 12) l
      | false ↦ then_zeros (length l) (r.count * 12) l
    ]

unfoldable pub end_with : Session → Tallied → List ℕ → List ℕ → List ℕ → CallWith
end_with s r w t l = record { call = list_end s r.of w t; count = r.count; list = list_after r l; made = r.made }

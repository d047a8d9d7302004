-- What a call with a list of ids comes to: the single requests for its ids in their order, up to and including the first that is refused.
use Rattle.std.specs.Prelude.{ℕ, zero, suc, ◌/◌, true, false, List, [], ◌∷◌, length, take, replicate, leb}
use Rattle.spec_bytes.specs.words.Words.{words}
use Rattle.spec_session.specs.declared.session.Session.{Session}
use Rattle.spec_session.specs.declared.session.Tally.{Tally}
use Rattle.spec_session.specs.session.Answers.{number_of, answer_of, stop_number, stays_open}
use Rattle.spec_session.specs.session.Turns.{Call, call_of, with_text, then_zeros}
use Rattle.spec_session.specs.calls.Calls.{type_call}

-- the ids of a list that is lent as bytes, four a number, least significant first; a remainder is left out. The answer's value has 32 bits,
-- so no list has more than 4,294,967,295 of them.
unfoldable pub ids_in : List ℕ → List ℕ
ids_in b = take 4294967295 (words b)

-- after n accepted ids, the call for the next: the list goes on from it, or is stopped by its number; the value is the count of the
-- accepted
unfoldable pub then_next : ℕ → Call → (Call → Call) → Call
then_next n c k = elim (number_of c.answer) [ zero ↦ k c | suc m ↦ call_of c.session (answer_of (suc m) n) c.work c.text ]

-- "Text, length, session and work must equal those of single requests in that order, up to and including the first refused": each is lent
-- session, work and text as the one before left them. n were accepted before; "an empty list tests and changes nothing".
unfoldable pub list_from : ℕ → Session → List ℕ → List ℕ → List ℕ → List ℕ → Call
list_from n s section work text [] = call_of s (answer_of 0 n) work text
list_from n s section work text (id ∷ ids) =
    then_next n (type_call s section work text id) (λ c. list_from (suc n) c.session section c.work c.text ids)

unfoldable pub list_call : Session → List ℕ → List ℕ → List ℕ → List ℕ → Call
list_call s section work text ids = list_from 0 s section work text ids

-- ---- the code's way: 11 is tested once, and what follows the text is zeroed once

-- how many ids there are in so many bytes
unfoldable pub count_in : List ℕ → ℕ
count_in b = elim (leb (length b / 4) 4294967295) [ true ↦ length b / 4 | false ↦ 4294967295 ]

-- what follows the text, after n accepted ids: as it was, or zeros
unfoldable pub tailed : ℕ → ℕ → List ℕ → List ℕ
tailed zero len t = t
tailed (suc n) len t = then_zeros (length t) len t

-- the end of the call: 10 does not close the session, what comes after it does
unfoldable pub list_end : Session → Tally → List ℕ → List ℕ → Call
list_end s r w t =
    elim (stays_open r.stop) [
      | true ↦ call_of (with_text s true r.len r.visits) (answer_of (stop_number r.stop) r.accepted) w (tailed r.accepted r.len t)
      | false ↦ call_of (with_text s false r.len r.visits) (answer_of (stop_number r.stop) r.accepted) (replicate (length w) 0)
          (then_zeros (length t) r.len t)
    ]

-- The end of calls by the number of what stopped them: any number, of no refusal too; 0 is none.
use Rattle.std.specs.Prelude.{ℕ, ◌+◌, ◌-◌, true, false, List, length, take, replicate, eqb, leb}
use Rattle.spec_session.specs.declared.session.Session.{Session}
use Rattle.spec_session.specs.session.Answers.{answer_of}
use Rattle.spec_session.specs.session.Turns.{Call, call_of, Reach, reached, refused_by, with_text, then_zeros}
use Rattle.spec_session.specs.calls.Lists.{tailed}
use Rattle.session_record.specs.arrival.Arrival.{clipped}
use Rattle.session_record.specs.declared.numbered.NumberedReach.{NumberedReach}
use Rattle.session_record.specs.declared.numbered.NumberedTally.{NumberedTally}
use Rattle.session_record.specs.declared.numbered.NumberedTurn.{NumberedTurn}

-- the code's struct of a session, a number and a value
abbrev pub turn_of : Session → ℕ → ℕ → NumberedTurn
turn_of s number value = record { session = s; number = number; value = value }

-- what a place in a slice of so many bytes says, after a text of len bytes and v visits: past its end, by 1 and a number, that number
unfoldable pub arrived_by : ℕ → ℕ → ℕ → ℕ → NumberedReach
arrived_by len v room at =
    elim (leb at room) [
      | true ↦ record { len = clipped (len + at); number = 0; visits = v }
      | false ↦ record { len = len; number = clipped (at - (room + 1)); visits = v }
    ]

-- `reach_of` of spec_session
unfoldable pub reach_by : NumberedReach → List ℕ → List ℕ → Reach
reach_by r w t =
    elim (eqb r.number 0) [ true ↦ reached r.len w t | false ↦ refused_by r.number r.len r.visits (take r.len t) ]

-- `list_end` of spec_session: no number up to 10 closes the session
unfoldable pub list_end_by : Session → NumberedTally → List ℕ → List ℕ → Call
list_end_by s r w t =
    elim (leb r.number 10) [
      | true ↦ call_of (with_text s true r.len r.visits) (answer_of r.number r.accepted) w (tailed r.accepted r.len t)
      | false ↦ call_of (with_text s false r.len r.visits) (answer_of r.number r.accepted) (replicate (length w) 0)
          (then_zeros (length t) r.len t)
    ]

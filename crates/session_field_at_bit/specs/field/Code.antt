-- What the code's answers say; only private functions promise what is defined here.
use Rattle.std.specs.Prelude.{ℕ, zero, suc, ◌+◌, ◌/◌, true, false, List, leb, length}
use Rattle.spec_c_dumper.specs.rules.Writer.{Ask, got, no}
use Rattle.spec_session.specs.session.Answers.{Answer, Accepted, Refused}
use Rattle.session_field_at_bit.specs.step.Code.{PathTold, path_told}
use Rattle.session_field_at_bit.specs.field.Calls.{put_words}

-- the entries p after the first n
unfoldable pub written : List ℕ → ℕ → Ask (List ℕ) → PathTold
written path n (no c) = path_told (no c) path
written path n (got p) =
    path_told (got (n + length p)) (elim (leb (n + length p) (length path / 4)) [ true ↦ put_words path n p | false ↦ path ])

-- the answer to a path of this length in room for so many entries
unfoldable pub answer_to : ℕ → ℕ → Answer
answer_to room zero = Refused 21 0
answer_to room (suc n) = elim (leb (suc n) room) [ true ↦ Accepted (suc n) | false ↦ Refused 17 0 ]

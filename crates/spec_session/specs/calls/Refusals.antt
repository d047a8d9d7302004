-- Document 01's table of refusals: the number and the value of each row. specs/Table.antt says that the calls and the rules refuse by
-- these.
use Rattle.std.specs.Prelude.{ℕ}
use Rattle.spec_session.specs.session.Answers.{Answer, answer_of}

-- the rows of the table
pub data RefusalRow : Type 0 where
  -- of opening
  pointer_size section_over bad_header bad_strings bad_record bad_reference prototype loop work_short : RefusalRow
  -- of requests
  not_current id_not_below too_deep cycle nameless align_zero overflow text_full misplaced : RefusalRow
  -- of requests under a ceiling
  ceiling_passed : RefusalRow

unfoldable pub number : RefusalRow → ℕ
number pointer_size = 1
number section_over = 2
number bad_header = 3
number bad_strings = 4
number bad_record = 5
number bad_reference = 6
number prototype = 7
number loop = 8
number work_short = 9
number not_current = 11
number id_not_below = 10
number too_deep = 12
number cycle = 13
number nameless = 14
number align_zero = 15
number overflow = 16
number text_full = 17
number misplaced = 18
number ceiling_passed = 22

-- "number, 0 types" at opening, and "number, old text length" of a request
unfoldable pub value : RefusalRow → ℕ → ℕ
value pointer_size len = 0
value section_over len = 0
value bad_header len = 0
value bad_strings len = 0
value bad_record len = 0
value bad_reference len = 0
value prototype len = 0
value loop len = 0
value work_short len = 0
value not_current len = len
value id_not_below len = len
value too_deep len = len
value cycle len = len
value nameless len = len
value align_zero len = len
value overflow len = len
value text_full len = len
value misplaced len = len
value ceiling_passed len = len

-- a refusal by a row of the table, where the text has this length
abbrev pub refusal : RefusalRow → ℕ → Answer
refusal c len = answer_of (number c) (value c len)

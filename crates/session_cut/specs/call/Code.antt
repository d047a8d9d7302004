-- What the code's answers say; only private functions promise what is defined here.
use Rattle.std.specs.Prelude.{Some, None}
use Rattle.spec_session.specs.session.Answers.{Accepted, Refused}
use Rattle.session_cut.specs.writer.Bytes.{Wrote, wrote_of}
use Rattle.session_cut.specs.call.Calls.{Cut, cut_of}

-- "The answer is the length written, 0 when refused"
unfoldable pub answered : Wrote → Cut
answered (wrote_of None out) = cut_of (Refused 23 0) out
answered (wrote_of (Some n) out) = cut_of (Accepted n) out

-- What every call of a session shares: what it comes to, cause 11, and how it ends. Document 01, "Session (made by opening, read by
-- requests)".
use Rattle.std.specs.Prelude.{ℕ, ◌-◌, ◌%◌, Bool, true, false, ◌&&◌, List, ◌++◌, take, replicate, eqb, leb, Some, None, Err}
use Rattle.spec_bytes.specs.declared.refusal.Refusal.{Refusal}
use Rattle.spec_bytes.specs.Refusals.{refusal_number}
use Rattle.spec_bytes.specs.words.Words.{get_word}
use Rattle.spec_type_table.specs.declared.types.TypeTable.{TypeTable}
use Rattle.btf_open_causes.specs.header.Header.{btf_of as settings_of}
use Rattle.spec_session.specs.session.Answers.{Answer, answer_of}
use Rattle.spec_session.specs.declared.session.Session.{Session}
use Rattle.spec_session.specs.declared.session.Turn.{Turn}
use Rattle.spec_session.specs.declared.session.Reached.{Reached}

-- what a call comes to: the session record after it, the answer, and work and text slices after it
pub record Call : Type 0 where
  pub session : Session
  pub answer : Answer
  pub work : List ℕ
  pub text : List ℕ

unfoldable pub call_of : Session → Answer → List ℕ → List ℕ → Call
call_of s a w t = record { session = s; answer = a; work = w; text = t }

-- the code's struct of a session and a refusal with its value
abbrev pub refused_turn : Session → Refusal → ℕ → Turn
refused_turn s c value = record { session = s; answer = Err (record { refusal = c; value = value }) }

-- ---- cause 11, and the table that a request reads

-- cause 11 does not hold: "session closed or never opened, length of section or of work changed since opening, or text slice shorter
-- than the text held"
unfoldable pub is_current : Session → ℕ → ℕ → ℕ → Bool
is_current s section work text = s.«open» && (eqb s.section_len section && (eqb s.work_len work && leb s.text_len text))

-- the table as the session has it
abbrev pub table_for : Session → List ℕ → TypeTable
table_for s section = settings_of section s.pointer_size s.modes s.types

-- ---- where requests come to

-- the visits that the work counts (`align_once` of the definitions): word 2 of void, 32 bits
unfoldable pub visits_in : List ℕ → ℕ
visits_in w = get_word w 2 % 4294967296

-- Where the requests of a call have come to: the length of the text, the work and the text slice; or the refusal that ended them, the
-- length of the text before it, the visits counted before it, and that text. After a refusal nothing else is said of work and text: they
-- are zeroed at the end.
pub data Reach : Type 0 where
  reached : ℕ → List ℕ → List ℕ → Reach
  refused_by : ℕ → ℕ → ℕ → List ℕ → Reach

-- what the code's Reached says, with the slices at that moment
unfoldable pub reach_of : Reached → List ℕ → List ℕ → Reach
reach_of r w t =
    elim r.stop [ None ↦ reached r.len w t | Some c ↦ refused_by (refusal_number c) r.len r.visits (take r.len t) ]

-- ---- the end of a call

-- the session with another length of its text and other visits, open or closed
abbrev pub with_text : Session → Bool → ℕ → ℕ → Session
with_text s is_open len v = record {
  «open» = is_open;
  section_len = s.section_len;
  work_len = s.work_len;
  types = s.types;
  enumerators = s.enumerators;
  text_len = len;
  pointer_size = s.pointer_size;
  modes = s.modes;
  visits = v;
}

-- the first len bytes of n, and then zeros
unfoldable pub then_zeros : ℕ → ℕ → List ℕ → List ℕ
then_zeros n len t = take len t ++ replicate (n - len) 0

-- The end of a call on slices of so many bytes of work and of text: "after success, and after 12 to 17, all bytes past the text's end
-- are zero"; "a request returns the new text length"; "12 to 17 [..] zero the work words and close the session";
-- "18 closes the session as 12 to 17 do". "In a session the counted visits [..] are kept in the record": those of the accepted requests.
unfoldable pub settled : Session → ℕ → ℕ → Reach → Call
settled s work text (reached len w t) =
    record { session = with_text s true len (visits_in w); answer = answer_of 0 len; work = w; text = then_zeros text len t }
settled s work text (refused_by c len v t) =
    record { session = with_text s false len v; answer = answer_of c len; work = replicate work 0; text = then_zeros text len t }

-- 11 and 10: "Left as it was: everything", and "old text length"
abbrev pub unchanged : Session → Answer → List ℕ → List ℕ → Call
unchanged s a w t = record { session = s; answer = a; work = w; text = t }

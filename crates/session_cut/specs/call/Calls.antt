-- What the call for a section cut down comes to, for all inputs: the answer, and the output slice after it. Session and section are only
-- read; neither work nor text is lent.
use Rattle.std.specs.Prelude.{ℕ, Bool, ◌&&◌, List, [], ◌∷◌, length, eqb}
use Rattle.spec_bytes.specs.words.Words.{words}
use Rattle.spec_opening.specs.Table.{described_in, types_of}
use Rattle.spec_opening.specs.Causes.{cause2, cause3, cause4, cause5, cause6, first_of}
use Rattle.spec_session.specs.session.Answers.{Answer, answer_of}
use Rattle.spec_session.specs.declared.session.Session.{Session}
use Rattle.spec_cut.specs.section.Section.{cut_section, cut_number, cut_value, cut_output}
use Rattle.spec_cut.specs.section.Test.{is_kept}

pub record Cut : Type 0 where
  pub answer : Answer
  pub out : List ℕ

unfoldable pub cut_of : Answer → List ℕ → Cut
cut_of a out = record { answer = a; out = out }

-- no cause 2 to 6 of opening holds of the section
unfoldable pub passes : ℕ → List ℕ → Bool
passes pointer s = eqb (first_of (cause2 s ∷ cause3 s ∷ cause4 s ∷ cause5 s ∷ cause6 pointer s ∷ [])) 0

-- 11 does not hold: the session is open, the section has the length that it had at opening, and what the call relies on is still so
unfoldable pub is_open_on : Session → List ℕ → Bool
is_open_on S s = (S.«open» && eqb S.section_len (length s)) && passes S.pointer_size s

-- the section that holds what is reachable from the given ids, four bytes each, least significant first
abbrev pub section_for : List ℕ → List ℕ → List ℕ
section_for s given = cut_section (is_kept (described_in s) (words given)) s

-- the answer with a number, and the output slice
unfoldable pub cut_by : ℕ → List ℕ → List ℕ → Cut
cut_by number section out = cut_of (answer_of number (cut_value number (length section))) (cut_output number section out)

unfoldable pub cut_call : Session → List ℕ → List ℕ → List ℕ → Cut
cut_call S s given out =
    cut_by (cut_number (is_open_on S s) (types_of s) (words given) (length out) (length (section_for s given))) (section_for s given) out

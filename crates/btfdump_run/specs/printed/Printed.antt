-- What the program prints: "It requests every id and prints the text, or only `refused `, the number in decimal and a newline."
use Rattle.std.specs.Prelude.{ℕ, true, false, List, [], ◌∷◌, ◌++◌, length, take, drop, replicate, leb, Option, Some, None}
use Rattle.spec_bytes.specs.text.Text.{ascii}
use Rattle.spec_bytes.specs.text.Decimal.{decimal}
use Rattle.spec_session.specs.session.Answers.{Answer, Accepted, Refused}
use Rattle.spec_session.specs.declared.session.Session.{Session}
use Rattle.spec_session.specs.session.Turns.{Call}
use Rattle.spec_session.specs.calls.Calls.{open_call, types_call}

-- a session record that was never opened
abbrev pub never_opened : Session
never_opened = record {
  «open» = false;
  section_len = 0;
  work_len = 0;
  types = 0;
  enumerators = 0;
  text_len = 0;
  pointer_size = 0;
  modes = 0;
  visits = 0;
}

unfoldable pub refused_line : ℕ → List ℕ
refused_line n = ascii "refused " ++ decimal n ++ 10 ∷ []

-- what is printed stands at the start of the text slice: how long it is, if it fits, and the slice
pub record Shown : Type 0 where
  pub len : Option ℕ
  pub text : List ℕ

unfoldable pub shown_to : Option ℕ → List ℕ → Shown
shown_to r t = record { len = r; text = t }

-- its bytes; nothing is printed of what does not fit
abbrev pub printed : Shown → List ℕ
printed s = elim s.len [ Some n ↦ take n s.text | None ↦ [] ]

-- Only the refusal. A slice too short for its line is all zeros.
unfoldable pub line_shown : List ℕ → ℕ → Shown
line_shown t n =
    elim (leb (length (refused_line n)) (length t)) [
      | true ↦ shown_to (Some (length (refused_line n))) (refused_line n ++ drop (length (refused_line n)) t)
      | false ↦ shown_to None (replicate (length t) 0)
    ]

-- only the refusal, or the text
unfoldable pub shown : Answer → List ℕ → Shown
shown (Accepted len) t = shown_to (Some len) t
shown (Refused number value) t = line_shown t number

-- and the work
pub record Ran : Type 0 where
  pub out : Shown
  pub work : List ℕ

unfoldable pub ran_to : Option ℕ → List ℕ → List ℕ → Ran
ran_to n t w = record { out = shown_to n t; work = w }

unfoldable pub ran_all : Call → Ran
ran_all c = record { out = shown c.answer c.text; work = c.work }

-- all ids, where opening was accepted
unfoldable pub ran_opened : List ℕ → Answer → Call → Ran
ran_opened section (Accepted types) c = ran_all (types_call c.session section c.work c.text)
ran_opened section (Refused number value) c = ran_all c

-- pointer size 8, unions under their own word
unfoldable pub ran_on : List ℕ → List ℕ → List ℕ → Ran
ran_on section w t = ran_opened section (open_call never_opened section w t 8 0).answer (open_call never_opened section w t 8 0)

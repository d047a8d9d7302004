-- A session over a section and one over its cut, call beside call: statements only. proofs/Reopened.antt has the proof.
-- "Opened afresh with the same settings, a new ledger, long enough work and text, and the old naming mode, the new section gives for the
-- renumbered requests the same text and refusals as the old so opened."
use Rattle.std.specs.Prelude.{ℕ, ◌/◌, ◌%◌, ◌<◌, ◌≡◌, Bool, true, List, ◌⊎◌, length, take}
use Rattle.spec_c_dumper.specs.rules.Machine.{Req}
use Rattle.spec_opening.specs.Table.{types_of}
use Rattle.spec_session.specs.declared.session.Session.{Session}
use Rattle.spec_session.specs.session.Answers.{number_of, value_of}
use Rattle.spec_session.specs.session.Turns.{Call}
use Rattle.spec_session.specs.calls.Calls.{open_call, type_call}
use Rattle.spec_c_dumper.specs.needs.Session.{dump_types}
use Rattle.spec_cut.specs.section.Renumbered.{new_id}
use Rattle.spec_cut.specs.section.Section.{cut_section}
use Rattle.spec_cut.specs.section.Stands.{Renumbered}
use Rattle.proof_demands.specs.demands.Table.{opened_table}
use Rattle.proof_demands.specs.demands.Demands.{Lent}

-- "the old naming mode": bit 3 of the modes is 0
abbrev pub OldNames : ℕ → Type 0
OldNames modes = modes / 8 % 2 ≡ 0

-- the sessions after two calls: open or closed alike, with the same text
pub record SameText (c c' : Call) : Type 0 where
  pub is_open : c.session.«open» ≡ c'.session.«open»
  pub text_len : c.session.text_len ≡ c'.session.text_len
  pub text : take c.session.text_len c.text ≡ take c'.session.text_len c'.text

-- two requests: the same number, value and text; and unless 10 or 11 left them as they were, the text slices are equal in every byte
pub record SameAnswer (c c' : Call) : Type 0 where
  pub number : number_of c.answer ≡ number_of c'.answer
  pub value : value_of c.answer ≡ value_of c'.answer
  pub begins : take (value_of c.answer) c.text ≡ take (value_of c'.answer) c'.text
  pub text : (number_of c.answer ≡ 10 → ⊥) → (number_of c.answer ≡ 11 → ⊥) → c.text ≡ c'.text

-- pointer size, modes, the section, the length of its work; m tells which ids are kept; the length of the work lent with the new section
module _ (pointer modes : ℕ) (s : List ℕ) (n : ℕ) (m : ℕ → Bool) (n' : ℕ) where
  -- an id of the section that has a number in the new one: void, or kept
  abbrev pub HasNumber : ℕ → Type 0
  HasNumber x = (x < types_of s) × ((x ≡ 0) ⊎ (m x ≡ true))

  abbrev pub HasNewNumber : ℕ → ℕ → Type 0
  HasNewNumber x x' = HasNumber x × (x' ≡ new_id m x)

  -- a call over the old section and one over the new: both openings, "with the same settings"; and requests after such calls, the second
  -- for the new number, each lent its work as the call before left it and a text slice that begins with the text so far, both slices of one
  -- length
  pub data Beside : Call → Call → Type 0 where
    both_open : (S S' : Session) (work work' text text' : List ℕ) → length work ≡ n → length work' ≡ n'
        → Beside (open_call S s work text pointer modes) (open_call S' (cut_section m s) work' text' pointer modes)
    both_ask : (c c' : Call) → Beside c c' → (text text' : List ℕ) → length text ≡ length text' → Lent c text → Lent c' text' → (x : ℕ)
        → HasNumber x
        → Beside (type_call c.session s c.work text x) (type_call c'.session (cut_section m s) c'.work text' (new_id m x))

  -- THE CLAIM: opening accepts the new section, and from there on each renumbered request gives the same as the old
  pub record Reopens : Type 0 where
    pub opens : (S : Session) (work text : List ℕ) → length work ≡ n'
        → number_of (open_call S (cut_section m s) work text pointer modes).answer ≡ 0
    pub same_text : (c c' : Call) → Beside c c' → SameText c c'
    pub same_answer : (c c' : Call) → Beside c c' → (text text' : List ℕ) → length text ≡ length text' → Lent c text → Lent c' text'
        → (x : ℕ) → HasNumber x
        → SameAnswer (type_call c.session s c.work text x) (type_call c'.session (cut_section m s) c'.work text' (new_id m x))
    -- and so by the rules, of the tables that the openings leave: numbers, lengths and text of all lists of requests
    pub by_rules : (rs rs' : List Req) → Renumbered HasNewNumber rs rs'
        → dump_types (opened_table pointer modes s n) rs ≡ dump_types (opened_table pointer modes (cut_section m s) n') rs'

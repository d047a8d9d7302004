-- "Where no suffix is passed over, both modes print alike", said of the calls of two sessions over one section: statement only.
-- proofs/Claims.antt has the proof, of every section that opening accepts, every list of requests after it, and every text slice that a
-- request is lent. It assumes nothing.
use Rattle.std.specs.Prelude.{ℕ, ◌/◌, ◌%◌, ◌≡◌, List, [], ◌∷◌, ◌++◌, length, take}
use Rattle.spec_c_dumper.specs.rules.Machine.{Req, one, all}
use Rattle.spec_session.specs.session.Answers.{number_of, value_of}
use Rattle.spec_session.specs.session.Turns.{Call}
use Rattle.spec_session.specs.calls.Calls.{type_call, types_call}
use Rattle.spec_session.specs.calls.Lists.{list_call}
use Rattle.proof_demands.specs.demands.Table.{opened_table}
use Rattle.proof_demands.specs.demands.Session.{singles_for, made, After}
use Rattle.proof_demands.specs.demands.Demands.{Lent}
use Rattle.proof_names_apart.specs.none_passed.Watched.{PassesNone}

-- the same number, value and text
pub record SameAnswer (c d : Call) : Type 0 where
  pub number : number_of c.answer ≡ number_of d.answer
  pub value : value_of c.answer ≡ value_of d.answer
  pub text : take (value_of c.answer) c.text ≡ take (value_of d.answer) d.text

-- of a list: the same number, as many accepted, and the same text
pub record SameList (c d : Call) : Type 0 where
  pub number : number_of c.answer ≡ number_of d.answer
  pub accepted : value_of c.answer ≡ value_of d.answer
  pub text_len : c.session.text_len ≡ d.session.text_len
  pub text : take c.session.text_len c.text ≡ take d.session.text_len d.text

-- pointer size, section and length of the work, as at both openings; the modes of the one and of the other
module _ (pointer modes old : ℕ) (s : List ℕ) (n : ℕ) where
  -- only the first has bit 3
  pub record OnlyNames : Type 0 where
    pub new_names : modes / 8 % 2 ≡ 1
    pub old_names : old / 8 % 2 ≡ 0
    pub same_modes : modes % 8 ≡ old % 8

  -- no number is passed over in the session with bit 3 and these requests
  abbrev pub NonePassed : List Req → Type 0
  NonePassed rs = PassesNone (opened_table pointer modes s n) rs

  -- c and d: the last calls of both after the requests rs, each lent slices of the same lengths
  pub record PrintAlike (c d : Call) (rs : List Req) : Type 0 where
    pub text_len : NonePassed rs → c.session.text_len ≡ d.session.text_len
    pub text : NonePassed rs → take c.session.text_len c.text ≡ take d.session.text_len d.text
    pub is_open : NonePassed rs → c.session.«open» ≡ d.session.«open»
    -- and the next request
    pub next_type : (t u : List ℕ) → Lent c t → Lent d u → length t ≡ length u → (id : ℕ) → NonePassed (rs ++ (one (length t) id ∷ []))
        → SameAnswer (type_call c.session s c.work t id) (type_call d.session s d.work u id)
    pub next_types : (t u : List ℕ) → Lent c t → Lent d u → length t ≡ length u → NonePassed (rs ++ (all (length t) ∷ []))
        → SameAnswer (types_call c.session s c.work t) (types_call d.session s d.work u)
    pub next_list : (t u : List ℕ) → Lent c t → Lent d u → length t ≡ length u → (ids : List ℕ)
        → NonePassed (rs ++ singles_for (length t) (made 0 (list_call c.session s c.work t ids)) ids)
        → SameList (list_call c.session s c.work t ids) (list_call d.session s d.work u ids)

  -- THE CLAIM, of all pointer sizes, sections and lengths of the work, and all modes that differ in bit 3 only
  abbrev pub BothModes : Type 0
  BothModes = OnlyNames → (c d : Call) (rs : List Req) → After pointer modes s n c rs → After pointer old s n d rs → PrintAlike c d rs

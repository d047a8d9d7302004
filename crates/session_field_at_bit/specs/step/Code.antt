-- What the code's answers say of a step and of an entry.
use Rattle.std.specs.Prelude.{ℕ, ◌-◌, ◌/◌, true, false, Option, Some, None, Result, Ok, Err, List, leb, eqb, length}
use Rattle.spec_bytes.specs.declared.refusal.Refusal.{Refusal}
use Rattle.spec_bytes.specs.Refusals.{refusal_number}
use Rattle.spec_bytes.specs.words.Words.{put_word}
use Rattle.spec_c_dumper.specs.rules.Writer.{Ask, got, no}
use Rattle.spec_type_table.specs.declared.types.TypeTable.{TypeTable}
use Rattle.spec_type_table.specs.declared.types.BtfMember.{BtfMember}
use Rattle.spec_type_table.specs.Table.{members_of}
use Rattle.session_field_at_bit.specs.declared.step.Shape.{Shape as CodeShape}
use Rattle.session_field_at_bit.specs.declared.step.Shape.TheVariants.{Plain, Through, Array, Composite}
use Rattle.session_field_at_bit.specs.declared.step.Step.{Step as CodeStep}
use Rattle.session_field_at_bit.specs.declared.step.Step.TheVariants.{Enter, Field}
use Rattle.session_field_at_bit.specs.step.Path.{Shape, plain, through, array, composite, Step, stay, enter, field, covers}

-- a composite is its record
unfoldable pub shape_is : TypeTable → List ℕ → CodeShape → Shape
shape_is b s Plain = plain
shape_is b s (Through t) = through t
shape_is b s (Array t) = array t
shape_is b s (Composite t) = composite (members_of b s t)

unfoldable pub step_is : Option CodeStep → Step
step_is None = stay
step_is (Some (Enter k t bit)) = enter k t bit
step_is (Some (Field k)) = field k

-- a step or a refusal
unfoldable pub step_asked : Result (Option CodeStep) Refusal → Ask Step
step_asked (Ok s) = got (step_is s)
step_asked (Err c) = no (refusal_number c)

-- a length or a refusal
unfoldable pub asked : Result ℕ Refusal → Ask ℕ
asked (Ok n) = got n
asked (Err c) = no (refusal_number c)

-- what member k says, where its bits end before `end`
unfoldable pub member_step : BtfMember → ℕ → ℕ → ℕ → Step
member_step m k end bit =
    elim (covers m.bit_offset end bit) [
      | true ↦ elim (eqb m.bit_size 0) [ true ↦ enter k m.type_id (bit - m.bit_offset) | false ↦ field k ]
      | false ↦ stay
    ]

-- the length of a path or a refusal, and the lent path
pub record PathTold : Type 0 where
  pub answer : Ask ℕ
  pub path : List ℕ

unfoldable pub path_told : Ask ℕ → List ℕ → PathTold
path_told a p = record { answer = a; path = p }

-- entry n of a lent path, where a path of this length has room
unfoldable pub entry_put : List ℕ → ℕ → ℕ → ℕ → List ℕ
entry_put path n k len = elim (leb len (length path / 4)) [ true ↦ put_word path n k | false ↦ path ]

-- entry n before the rest, once the length of the whole is known
unfoldable pub entry_before : List ℕ → ℕ → ℕ → Ask ℕ → PathTold
entry_before path n k (got len) = path_told (got len) (entry_put path n k len)
entry_before path n k (no c) = path_told (no c) path

-- Enums of both widths: the values of an ENUM64, kind 19, are of 64 bits, those of an ENUM of 32.
use Rattle.std.specs.Prelude.{ℕ, Bool, true, false, List, eqb}
use Rattle.spec_c_dumper.specs.rules.Types.{Enumerator}
use Rattle.spec_c_dumper.specs.rules.Decl.{enum_value, enum64_value}
use Rattle.spec_type_table.specs.declared.types.TypeTable.{TypeTable}
use Rattle.spec_type_table.specs.declared.types.BtfType.{BtfType as Record}
use Rattle.spec_type_table.specs.Records.{vlen_of, kind_of}
use Rattle.spec_type_table.specs.Table.{from, value_of, value64_of}

-- whether values are of 64 bits
abbrev pub is_wide : Record → Bool
is_wide t = eqb (kind_of t.info) 19

-- the text of a value, by its width and its sign
unfoldable pub value_text : Bool → Bool → ℕ → List ℕ
value_text wide = elim wide [ true ↦ enum64_value | false ↦ enum_value ]

-- value k of the enum at a place, by its width; and all values
unfoldable pub enumerator_at : Bool → TypeTable → List ℕ → ℕ → ℕ → Enumerator
enumerator_at wide b s = elim wide [ true ↦ value64_of b s | false ↦ value_of b s ]

abbrev pub enum_values : TypeTable → List ℕ → Record → List Enumerator
enum_values b s t = from (enumerator_at (is_wide t) b s t.at) 0 (vlen_of t.info)

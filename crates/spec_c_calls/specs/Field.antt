-- What the call for the field at a bit comes to: the result, and the lent path after it. Record, section and work are only read.
use Rattle.std.specs.Prelude.{ℕ, ◌*◌, true, false, List, ltb, length}
use Rattle.session_field_at_bit.specs.field.Calls.{Found, field_call}
use Rattle.session_record.specs.record_words.Words.{decoded, packed}

pub record PathExport : Type 0 where
  pub result : ℕ
  pub path : List ℕ

unfoldable pub path_export_of : ℕ → List ℕ → PathExport
path_export_of n p = record { result = n; path = p }

unfoldable pub found_by : Found → PathExport
found_by f = path_export_of (packed f.answer) f.path

-- a record of under 128 bytes: 11
unfoldable pub field_export : List ℕ → List ℕ → List ℕ → List ℕ → ℕ → ℕ → PathExport
field_export r section w path id bit =
    elim (ltb (length r) 128) [
      | true ↦ path_export_of (11 * 4294967296) path
      | false ↦ found_by (field_call (decoded r) section w path id bit)
    ]

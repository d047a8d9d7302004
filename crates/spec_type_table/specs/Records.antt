-- Words of a section and the parts of a record, as the Linux documentation has them.
use Rattle.std.specs.Prelude.{ℕ, ◌+◌, ◌*◌, ◌/◌, ◌%◌, Bool, true, false, List, [], ◌∷◌, leb, eqb, get_or, Option, Some, None}
use Rattle.spec_bytes.specs.words.Words.{word_in}
use Rattle.spec_type_table.specs.declared.types.TypeTable.{TypeTable}
use Rattle.spec_type_table.specs.declared.types.BtfType.{BtfType}
use Rattle.spec_type_table.specs.declared.types.BtfMember.{BtfMember}
use Rattle.spec_type_table.specs.declared.types.Entries.{Entries}
use Rattle.spec_type_table.specs.Cells.{get_field}

-- __u32 at a place of the section, the most significant byte first where the section has that order
unfoldable pub section_word : TypeTable → List ℕ → ℕ → ℕ
section_word b s at = word_in b.big_endian s at

-- three of them in a row
unfoldable pub section_three : TypeTable → List ℕ → ℕ → List ℕ
section_three b s at = section_word b s at ∷ section_word b s (at + 4) ∷ section_word b s (at + 8) ∷ []

-- struct btf_type, "info" bits arrangement: bits 0-15 vlen, bits 24-28 kind, bit 31 kind_flag
abbrev pub vlen_of : ℕ → ℕ
vlen_of info = info % 65536

abbrev pub kind_of : ℕ → ℕ
kind_of info = info / 16777216 % 32

abbrev pub flag_of : ℕ → Bool
flag_of info = leb 2147483648 info

-- entry k of the record at a place: 12 bytes each for members and values of an ENUM64, 8 for parameters and values of an ENUM
abbrev pub member_at : ℕ → ℕ → ℕ
member_at at k = at + 12 + k * 12

abbrev pub param_at : ℕ → ℕ → ℕ
param_at at k = at + 12 + k * 8

-- struct btf_type at a place: name_off, info, size or type
unfoldable pub record_at : TypeTable → List ℕ → ℕ → BtfType
record_at b s at = record {
  at = at;
  name_off = section_word b s at;
  info = section_word b s (at + 4);
  type_id = section_word b s (at + 8);
}

-- id 0, and what lies past the table
unfoldable pub void_record : BtfType
void_record = record { at = 0; name_off = 0; info = 0; type_id = 0 }

-- the record of an id, whose place stands in the work
unfoldable pub record_by_id : TypeTable → List ℕ → List ℕ → ℕ → BtfType
record_by_id b s w id =
    elim (eqb id 0) [
      | true ↦ void_record
      | false ↦ elim (leb b.types id) [ true ↦ void_record | false ↦ record_at b s (get_field w id 0) ]
    ]

abbrev pub entries_of : BtfType → Entries
entries_of t = record { at = t.at; vlen = vlen_of t.info }

-- struct btf_member: with kind_flag bits 0-23 of the offset are the offset and bits 24-31 the size of a bit field
unfoldable pub member_of : TypeTable → List ℕ → BtfType → ℕ → BtfMember
member_of b s t k =
    elim (flag_of t.info) [
      | true ↦ record {
        name_off = section_word b s (member_at t.at k);
        type_id = section_word b s (member_at t.at k + 4);
        bit_offset = section_word b s (member_at t.at k + 8) % 16777216;
        bit_size = section_word b s (member_at t.at k + 8) / 16777216;
      }
      | false ↦ record {
        name_off = section_word b s (member_at t.at k);
        type_id = section_word b s (member_at t.at k + 4);
        bit_offset = section_word b s (member_at t.at k + 8);
        bit_size = 0;
      }
    ]

-- how many bytes follow the twelve of struct btf_type, by the kind 1 to 19: there is no other
unfoldable pub extra_of : ℕ → ℕ → Option ℕ
extra_of kind vlen = get_or
    (None
    ∷ Some 4
    ∷ Some 0
    ∷ Some 12
    ∷ Some (12 * (vlen % 65536))
    ∷ Some (12 * (vlen % 65536))
    ∷ Some (8 * (vlen % 65536))
    ∷ Some 0
    ∷ Some 0
    ∷ Some 0
    ∷ Some 0
    ∷ Some 0
    ∷ Some 0
    ∷ Some (8 * (vlen % 65536))
    ∷ Some 4
    ∷ Some (12 * (vlen % 65536))
    ∷ Some 0
    ∷ Some 4
    ∷ Some 0
    ∷ Some (12 * (vlen % 65536))
    ∷ [])
    kind
    None

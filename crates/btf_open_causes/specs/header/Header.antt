-- The header of a section as the code reads it, and the tests of causes 1 to 4. `spec_linux_btf` says what a sound header and a sound
-- string area are; proofs/Headers.antt that these tests decide it.
use Rattle.std.specs.Prelude.{ℕ, ◌+◌, ◌/◌, ◌%◌, Bool, true, false, ◌&&◌, ◌||◌, not, List, length, get_or, take, drop, ltb, leb}
use Rattle.std.specs.Prelude.{eqb}
use Rattle.spec_bytes.specs.words.Words.{pick}
use Rattle.spec_linux_btf.specs.Section.{is_big_endian, little_endian, word_of, strings_sound}
use Rattle.spec_type_table.specs.declared.types.TypeTable.{TypeTable}
use Rattle.btf_open_causes.specs.declared.header.Header.{Header}
use Rattle.btf_open_causes.specs.declared.header.Mode.{Mode}
use Rattle.btf_open_causes.specs.declared.header.Mode.TheVariants.{UnionAsStruct, StrongArrays, Placing, NamesApart}

-- struct btf_header from hdr_len on, in the section's order
unfoldable pub header_of : List ℕ → Header
header_of s =
    record { hdr_len = word_of s 4; type_off = word_of s 8; type_len = word_of s 12; str_off = word_of s 16; str_len = word_of s 20 }

-- where the string area starts, "offsets count from the header's end"; a place that 32 bits cannot hold lies past every section
unfoldable pub strings_at : List ℕ → ℕ
strings_at s = pick (ltb (word_of s 4 + word_of s 16) 4294967296) (word_of s 4 + word_of s 16) 4294967295

-- the bit of a mode, of which the session's modes are the sum
abbrev pub mode_bit : Mode → ℕ
mode_bit UnionAsStruct = 1
mode_bit StrongArrays = 2
mode_bit Placing = 4
mode_bit NamesApart = 8

-- what a table's types need of its header and settings: "pointer size 4 or 8"; "union_as_struct, chosen at opening" (bit 0); "a setting
-- under which passing an array forgets pointers passed before it" (bit 1); "a placing mode beside the old one" (bit 2);
-- "A section whose first bytes are EB 9F is read with every word most significant byte first"
unfoldable pub btf_of : List ℕ → ℕ → ℕ → ℕ → TypeTable
btf_of s pointer modes types = record {
  ptr_sz = pick (eqb pointer 4) 4 8;
  union_as_struct = eqb (modes % 2) 1;
  big_endian = is_big_endian s;
  strong_arrays = eqb (modes / 2 % 2) 1;
  placing = eqb (modes / 4 % 2) 1;
  types = pick (ltb types 262145) types 262145;
  strs = strings_at s;
}

-- at least 24 bytes, magic bytes 9F EB or EB 9F, version 1
unfoldable pub is_magic : List ℕ → Bool
is_magic s = leb 24 (length s) && ((is_big_endian s || little_endian s) && eqb (get_or s 2 0) 1)

-- the string area, as the header has it, is not sound, or does not lie inside the section
unfoldable pub bad_strings : List ℕ → Bool
bad_strings s =
    elim (ltb (length s) (word_of s 4 + word_of s 16 + word_of s 20)) [
      | true ↦ true
      | false ↦ not (strings_sound (take (word_of s 20) (drop (word_of s 4 + word_of s 16) s)))
    ]

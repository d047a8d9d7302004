-- The new section, and what the call for it comes to. s: the old section, which opening accepted; m tells which ids are kept.
use Rattle.std.specs.Prelude.{ℕ, zero, suc, Bool, true, false, not, ◌||◌, List, [], ◌∷◌, ◌++◌, length, get_or, drop, ltb}
use Rattle.spec_linux_btf.specs.Documentation.{Described, encode_strings, encode_section}
use Rattle.spec_linux_btf.specs.Reading.{decode_all}
use Rattle.spec_linux_btf.specs.Section.{is_big_endian, type_area, string_area}
use Rattle.spec_c_dumper.specs.rules.Types.{Name}
use Rattle.spec_type_table.specs.Names.{name_at}
use Rattle.spec_cut.specs.section.Renumbered.{new_id, kept_types, renamed_all}
use Rattle.spec_cut.specs.section.Strings.{all_mentions, add_all, first_names, place_in}

-- the types of a section, from id 1 on
abbrev pub types_of : List ℕ → List Described
types_of s = decode_all (is_big_endian s) (type_area s)

module _ (m : ℕ → Bool) (s : List ℕ) where
  -- the types that are kept, as they were
  abbrev pub old_types : List Described
  old_types = kept_types m 1 (types_of s)

  -- the names that they mention
  abbrev pub new_names : List Name
  new_names = add_all (string_area s) first_names (all_mentions old_types)

  -- where the name at an offset of the old string area stands in the new one
  abbrev pub new_offset : ℕ → ℕ
  new_offset n = place_in new_names (name_at (string_area s) n)

  abbrev pub new_types : List Described
  new_types = renamed_all (new_id m) new_offset old_types

  abbrev pub new_strings : List ℕ
  new_strings = encode_strings new_names

  -- "Byte order, version and flags are the old; the header has 24 bytes, types follow, then strings". The version is 1: cause 3 of opening
  unfoldable pub cut_section : List ℕ
  cut_section = encode_section (is_big_endian s) (get_or s 3 0) new_types new_strings

-- "A given id not below the count"
unfoldable pub any_past : ℕ → List ℕ → Bool
any_past count [] = false
any_past count (x ∷ xs) = not (ltb x count) || any_past count xs

-- The number: 11 where the session is not open; "A given id not below the count is 10"; "23 when the output slice is short or the new
-- section would pass 16,777,216 bytes". out: the length of the output slice; len: that of the new section
unfoldable pub cut_number : Bool → ℕ → List ℕ → ℕ → ℕ → ℕ
cut_number is_open count given out len =
    elim is_open [
      | false ↦ 11
      | true ↦ elim (any_past count given) [
        | true ↦ 10
        | false ↦ elim (ltb out len || ltb 16777216 len) [ true ↦ 23 | false ↦ 0 ]
      ]
    ]

-- "The answer is the length written, 0 when refused"
abbrev pub cut_value : ℕ → ℕ → ℕ
cut_value zero len = len
cut_value (suc e) len = 0

-- the output slice afterwards: "nothing is written" by a refusal; "the rest of the slice .. never altered"
abbrev pub cut_output : ℕ → List ℕ → List ℕ → List ℕ
cut_output zero section out = section ++ drop (length section) out
cut_output (suc e) section out = out

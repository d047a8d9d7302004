-- A section as it is read: the fields of its header, its two areas, and the tests of causes 3, 4 and 5 of opening. Law types-places: the
-- test of cause 5 by places in the section's own bytes is the one here.
use Rattle.std.specs.Prelude.{ℕ, ◌+◌, ◌<◌, ◌≤◌, ◌≡◌, Bool, true, false, ◌&&◌, ◌||◌, List, [], ◌∷◌, length, get_or, take, drop, leb, eqb}
use Rattle.spec_bytes.specs.words.Words.{word_in}
use Rattle.spec_linux_btf.specs.Documentation.{Header, header, Every, Described, encode_all, Allowed}
use Rattle.spec_linux_btf.specs.Reading.{word, layout_sound}
use Rattle.spec_linux_btf.specs.Places.{type_p, place_from}

-- "The magic .. can be used to test whether BTF is generated for big- or little-endian target": bytes EB 9F or 9F EB
unfoldable pub is_big_endian : List ℕ → Bool
is_big_endian s = eqb (get_or s 0 0) 235 && eqb (get_or s 1 0) 159

unfoldable pub little_endian : List ℕ → Bool
little_endian s = eqb (get_or s 0 0) 159 && eqb (get_or s 1 0) 235

-- the word at a place of a section, in the section's order; 0 where it does not lie inside
unfoldable pub word_of : List ℕ → ℕ → ℕ
word_of s at = word_in (is_big_endian s) s at

unfoldable pub hdr_len_of : List ℕ → ℕ
hdr_len_of s = word (is_big_endian s) s 4

unfoldable pub type_off_of : List ℕ → ℕ
type_off_of s = word (is_big_endian s) s 8

unfoldable pub type_len_of : List ℕ → ℕ
type_len_of s = word (is_big_endian s) s 12

unfoldable pub str_off_of : List ℕ → ℕ
str_off_of s = word (is_big_endian s) s 16

unfoldable pub str_len_of : List ℕ → ℕ
str_len_of s = word (is_big_endian s) s 20

unfoldable pub read_header : List ℕ → Header
read_header s = header (get_or s 2 0) (get_or s 3 0) (hdr_len_of s) (type_off_of s) (type_len_of s) (str_off_of s) (str_len_of s)

-- the place of the type section, and of the string section: "offsets are in bytes relative to the end of this header"
abbrev pub types_at : List ℕ → ℕ
types_at s = hdr_len_of s + type_off_of s

abbrev pub strings_at : List ℕ → ℕ
strings_at s = hdr_len_of s + str_off_of s

-- their bytes
unfoldable pub type_area : List ℕ → List ℕ
type_area s = take (type_len_of s) (drop (types_at s) s)

unfoldable pub string_area : List ℕ → List ℕ
string_area s = take (str_len_of s) (drop (strings_at s) s)

-- not cause 3: "under 24 bytes, magic, version, header length under 24 or past the end, an area past the end"
unfoldable pub header_sound : List ℕ → Bool
header_sound s =
    leb 24 (length s)
    && ((is_big_endian s || little_endian s)
    && (eqb (get_or s 2 0) 1
    && (leb 24 (hdr_len_of s)
    && (leb (hdr_len_of s) (length s)
    && (leb (types_at s + type_len_of s) (length s) && leb (strings_at s + str_len_of s) (length s))))))

abbrev pub all_ascii : List ℕ → Bool
all_ascii [] = true
all_ascii (x ∷ xs) = leb x 127 && all_ascii xs

-- the last byte
abbrev pub last_of : ℕ → List ℕ → ℕ
last_of d [] = d
last_of d (x ∷ xs) = last_of x xs

-- not cause 4: "string area empty, not starting or ending in 0, or a byte over 127"
unfoldable pub strings_sound : List ℕ → Bool
strings_sound a = leb 1 (length a) && (eqb (get_or a 0 1) 0 && (eqb (last_of 1 a) 0 && all_ascii a))

-- the strings of a string section, each ended by a null byte
abbrev pub prepend : ℕ → List (List ℕ) → List (List ℕ)
prepend x [] = (x ∷ []) ∷ []
prepend x (s ∷ ss) = (x ∷ s) ∷ ss

unfoldable pub split_strings : List ℕ → List (List ℕ)
split_strings [] = []
split_strings (x ∷ xs) = elim (eqb x 0) [ true ↦ [] ∷ split_strings xs | false ↦ prepend x (split_strings xs) ]

-- not cause 5: "kind 0 or over 19, info bits 16-23, 29 or 30 set, record past its area, name offset outside, more than 262,144 records"
unfoldable pub types_sound : List ℕ → Bool
types_sound s = layout_sound (is_big_endian s) (str_len_of s) (type_area s)

-- The section s holds the types ts: its type section is their layout in its order, and the type read by places in s, at the place that the
-- records before it lead to, is the one with that id, with every field of every entry
pub record ReadAs (s : List ℕ) (ts : List Described) : Type 0 where
  pub laid : encode_all (is_big_endian s) ts ≡ type_area s
  pub allowed : Every (Allowed (str_len_of s)) ts
  pub few : length ts ≤ 262144
  pub each : (i : ℕ) (d : Described) → i < length ts → type_p (word_of s) (place_from (word_of s) (types_at s) i) ≡ get_or ts i d

-- The theorems about records, each with the sentence of Documentation/bpf/btf.rst that it is about. They speak of `specs/` alone: `Documentation` is the
-- page, `Reading` and `Section` read bytes, `Places` reads words at places as code does, `Fields` names the fields. No theorem assumes anything
-- beside its premises. Each holds for both orders of bytes: for any order `big`, or for the one that the section's magic tells.
use Prim.Native.Nat.{ℕ, ◌+◌, ◌*◌, ◌/◌, ◌%◌, ◌<◌, ◌≤◌, ◌^◌}
use mathlib.Core.Path.{◌≡◌, ap, ◌∙◌}
use mathlib.Core.Bool.{Bool, true, ◌||◌}
use mathlib.Core.List.{List, [], ◌∷◌, ◌++◌}
use mathlib.Core.Logic.{◌↔◌}
use native.Mathlib.Omega.{arith}
use lib.ListN.{length, get_or, take, drop}
use Rattle.spec_linux_btf.specs.Documentation.{Field, Every, in_bytes, lay_out, unpack, btf_header, btf_type, btf_info, btf_info_unused, btf_int, int_word, btf_array, btf_member, btf_enum, btf_param, btf_var, btf_var_secinfo, btf_decl_tag, btf_enum64, each, follows, follow_size, put_each, member, Body, Described, kind_of, vlen_of, put_body, encode_all, starts, Fits, Allowed, encode_table, NonzeroAscii, Header, encode_header, FitHeader, encode_section}
use Rattle.spec_linux_btf.specs.Reading.{Bytes, kind, shape, known, extra, places, decode_all, layout_sound}
use Rattle.spec_linux_btf.specs.Places.{vlen_p, kind_p, flag_p, member_p, type_p, place_from, sound_p, named_p, passes_p}
use Rattle.spec_linux_btf.specs.Section.{is_big_endian, little_endian, word_of, type_len_of, str_len_of, types_at, type_area, string_area, read_header, header_sound, strings_sound, types_sound, ReadAs}
use Rattle.spec_linux_btf.specs.Fields.{name_off, vlen_in, kind_in, kind_flag, info, size_or_type, body_structs, structs, bit_offset, bitfield_size, int_bits, array_type, array_index_type, array_nelems, member_name_off, member_type, member_offset, member_bit_offset, member_bitfield_size, enum_name_off, enum_val, param_name_off, param_type, var_linkage, secinfo_type, secinfo_offset, secinfo_size, component_idx, enum64_name_off, enum64_lo, enum64_hi, structs_at}
use Rattle.spec_linux_btf.proofs.Area as Area
use Rattle.spec_linux_btf.proofs.Section as Section
use Rattle.spec_linux_btf.proofs.SectionFields as SectionFields
use Rattle.spec_linux_btf.proofs.SectionTests as SectionTests
use Rattle.spec_linux_btf.proofs.Written as Written
use Rattle.spec_linux_btf.proofs.Strings as Strings
use Rattle.spec_linux_btf.proofs.Tables as Tables
use Rattle.spec_linux_btf.proofs.Fields as Fields

---------------------------------------------------------------------------------------------------------------------------------------
-- (a) Reading what the page's layout wrote gives back the described types

-- 2.2, "The type section is parsed sequentially and type id is assigned to each recognized type starting from id 1": the bytes of a list of types are
-- read as that list, each type at the offset where its bytes begin. 262,144 is the scope's limit on records.
pub layout_read : (big : Bool) (ts : List Described) → Every Fits ts → length ts ≤ 262144
    → (places big 262144 (encode_all big ts) 0 ≡ starts big 0 ts) × (decode_all big (encode_all big ts) ≡ ts)
layout_read = Area.layout_read

-- and they pass the tests of cause 5, beside a string section of sl bytes
pub layout_passes : (big : Bool) (sl : ℕ) (ts : List Described) → Every (Allowed sl) ts → length ts ≤ 262144 → layout_sound big sl (encode_all big ts) ≡ true
layout_passes = Area.layout_passes

-- 2., "The beginning of data blob must be: struct btf_header": a section written with its types and then its strings directly after the header is read,
-- by places in its bytes, as those types
pub section_as : (big : Bool) (flags : ℕ) (ts : List Described) (strings : List ℕ) → flags < 256 → length (encode_all big ts) < 2 ^ 32 → length strings < 2 ^ 32
    → Bytes strings → Every (Allowed (length strings)) ts → length ts ≤ 262144 → ReadAs (encode_section big flags ts strings) ts
section_as = Written.section_as

-- 2., "All offsets are in bytes relative to the end of this header": and so is every section whose header points to the bytes of the types, wherever
-- they stand, with a header of any length from 24 on, gaps, or bytes after the areas
pub area_as : (s : List ℕ) (ts : List Described) → Bytes s → header_sound s ≡ true → type_area s ≡ encode_all (is_big_endian s) ts → Every (Allowed (str_len_of s)) ts
    → length ts ≤ 262144 → ReadAs s ts
area_as = Written.area_as

-- 2. struct btf_header, and 2.1, "The first string in the string section must be a null string. The rest of string table is a concatenation of other
-- null-terminated strings"
pub header_read : (big : Bool) (h : Header) (s : List ℕ) → FitHeader h → read_header (encode_header big h ++ s) ≡ h
header_read = Section.header_read

pub order_written : (big : Bool) (h : Header) (s : List ℕ) → is_big_endian (encode_header big h ++ s) ≡ big
order_written = Section.order_written

pub strings_pass : (ss : List (List ℕ)) → Every (Every NonzeroAscii) ss → strings_sound (encode_table ss) ≡ true
strings_pass = Strings.strings_pass

---------------------------------------------------------------------------------------------------------------------------------------
-- (b) A section that passes causes 3 to 5 has exactly one list of described types, and every field read by place is that list's field

-- 2.2: the bytes of a type section that passes cause 5 are the layout of the types that are read in it
pub read_layout : (big : Bool) (sl : ℕ) (b : List ℕ) → Bytes b → layout_sound big sl b ≡ true
    → (encode_all big (decode_all big b) ≡ b) × Every (Allowed sl) (decode_all big b) × (length (decode_all big b) ≤ 262144)
read_layout = Area.read_layout

-- and of no other types
pub only_read : (big : Bool) (sl : ℕ) (b : List ℕ) → Bytes b → layout_sound big sl b ≡ true → (ts : List Described) → Every Fits ts → encode_all big ts ≡ b → ts ≡ decode_all big b
only_read = Area.only_read

-- both together: cause 5 refuses exactly what is not the layout of at most 262,144 types whose numbers fit and whose names lie in the string section
pub sound_iff : (big : Bool) (sl : ℕ) (b : List ℕ) → Bytes b
    → (layout_sound big sl b ≡ true) ↔ ((ts : List Described) × Every (Allowed sl) ts × (length ts ≤ 262144) × (encode_all big ts ≡ b))
sound_iff = Area.sound_iff

-- 2., 2.2: of a section. `ReadAs` says that the type read by places is the type of the list, for every id
pub section_fields : (s : List ℕ) → Bytes s → header_sound s ≡ true → types_sound s ≡ true → ReadAs s (decode_all (is_big_endian s) (type_area s))
section_fields = SectionFields.section_fields

-- 2., 2.1, 2.2: a section that passes causes 3, 4 and 5 has exactly one list of described types, and exactly one list of strings after the null string
pub section_one : (s : List ℕ) → Bytes s → header_sound s ≡ true → strings_sound (string_area s) ≡ true → types_sound s ≡ true
    → ((ts : List Described) × ReadAs s ts × ((us : List Described) → Every Fits us → encode_all (is_big_endian s) us ≡ type_area s → us ≡ ts))
    × ((ss : List (List ℕ)) × Every (Every NonzeroAscii) ss × (encode_table ss ≡ string_area s) × ((us : List (List ℕ)) → Every (Every NonzeroAscii) us → encode_table us ≡ string_area s → us ≡ ss))
section_one = Written.section_one

-- cause 5 decided by words at their places in the section is cause 5
pub types_places : (s : List ℕ) → header_sound s ≡ true → types_sound s ≡ passes_p (str_len_of s) 262144 (word_of s) (types_at s + type_len_of s) (types_at s)
types_places = SectionTests.types_places

-- the type section ends where its last record ends; and each record lies inside it and passes the tests of cause 5 by itself
pub section_ends : (s : List ℕ) → Bytes s → header_sound s ≡ true → types_sound s ≡ true
    → place_from (word_of s) (types_at s) (length (decode_all (is_big_endian s) (type_area s))) ≡ types_at s + type_len_of s
section_ends = SectionFields.section_ends

pub section_inside : (s : List ℕ) → Bytes s → header_sound s ≡ true → types_sound s ≡ true → (i : ℕ) → i < length (decode_all (is_big_endian s) (type_area s))
    → place_from (word_of s) (types_at s) i + 12 ≤ types_at s + type_len_of s
section_inside = SectionFields.section_inside

pub section_sound_at : (s : List ℕ) → Bytes s → header_sound s ≡ true → types_sound s ≡ true → (i : ℕ) → i < length (decode_all (is_big_endian s) (type_area s))
    → (sound_p (word_of s) (types_at s + type_len_of s) (place_from (word_of s) (types_at s) i) ≡ true) × (named_p (str_len_of s) (word_of s) (place_from (word_of s) (types_at s) i) ≡ true)
section_sound_at = SectionTests.section_sound_at

-- 2., the header: "The magic is 0xeB9F, which has different encoding for big and little endian systems, and can be used to test whether BTF is
-- generated for big- or little-endian target": the bytes EB 9F or 9F EB
pub header_back : (s : List ℕ) → Bytes s → 24 ≤ length s → (is_big_endian s || little_endian s) ≡ true → encode_header (is_big_endian s) (read_header s) ++ drop 24 s ≡ s
header_back = Section.header_back

-- 2.1: a string section that passes cause 4 is a null string and then null-terminated strings, and of one list only
pub strings_back : (a : List ℕ) → strings_sound a ≡ true → (ss : List (List ℕ)) × Every (Every NonzeroAscii) ss × (encode_table ss ≡ a)
strings_back = Strings.strings_back

pub strings_once : (ss us : List (List ℕ)) → Every (Every NonzeroAscii) ss → Every (Every NonzeroAscii) us → encode_table ss ≡ encode_table us → ss ≡ us
strings_once = Strings.strings_once

---------------------------------------------------------------------------------------------------------------------------------------
-- (c) Each field is the word, or the range of bits, that the page's tables name. w reads the word at a place, p is the place of a record: any w, any p.
-- Kind by kind, all of a type at once: laws type-INT to type-ENUM64 of `Fields`, w (p + 4) / 16777216 % 32 ≡ 4 → type_p w p ≡ described ..

-- Where a word is asked to be below 2 ^ 32: a word of a section is
pub words_fit : (s : List ℕ) → Bytes s → (q : ℕ) → word_of s q < 2 ^ 32
words_fit = SectionFields.words_fit

module _ (w : ℕ → ℕ) (p : ℕ) where
  abbrev kind_at : ℕ
  kind_at = w (p + 4) / 16777216 % 32

  abbrev vlen_at : ℕ
  vlen_at = w (p + 4) % 65536

  -- 2.2 struct btf_type: name_off, info, size/type at 0, 4, 8
  pub name_word : name_off (type_p w p) ≡ w p
  name_word = Fields.name_word w p

  pub size_word : size_or_type (type_p w p) ≡ w (p + 8)
  size_word = Fields.size_word w p

  -- info as a whole, where the tests of cause 5 pass. vlen, kind and kind_flag are its bits 0-15, 24-28 and 31; bits 16-23 and 29-30 are 0
  pub info_word : (len : ℕ) → sound_p w len p ≡ true → info (type_p w p) ≡ w (p + 4)
  info_word = Fields.info_word w p

  pub info_ranges : w (p + 4) < 2 ^ 32 → (vlen_p w p ∷ kind_p w p ∷ flag_p w p ∷ []) ≡ unpack btf_info (w (p + 4))
  info_ranges = Fields.info_ranges w p

  pub unused_ranges : (len : ℕ) → sound_p w len p ≡ true → unpack btf_info_unused (w (p + 4)) ≡ 0 ∷ 0 ∷ []
  unused_ranges len = Fields.unused_ranges w len p

  pub vlen_word : vlen_in (type_p w p) ≡ vlen_at
  vlen_word = Fields.vlen_word w p

  pub flag_word : kind_flag (type_p w p) ≡ w (p + 4) / 2147483648
  flag_word = Fields.flag_word w p

  pub kind_word : known (shape (kind kind_at)) ≡ true → kind_in (type_p w p) ≡ kind_at
  kind_word = Fields.kind_word w p

  -- 2.2, "For certain kinds, the common data are followed by kind-specific data": all that follows, by the table `kinds`
  pub structs_words : structs (type_p w p) ≡ structs_at (follows kind_at) w (p + 12) vlen_at
  structs_words = Fields.structs_words w p

  zero_field : (q : ℕ) → w (q + 0) ≡ w q
  zero_field q = let e : q + 0 ≡ q = omega arith in ap w e

  -- 2.2.1 INT: BTF_INT_BITS, bits 0-7 of the word that follows
  pub int_bits_lem : kind_at ≡ 1 → int_bits (type_p w p) ≡ w (p + 12) % 256
  int_bits_lem e =
      let x : ℕ = w (p + 12) in
      let z : x / 1 % 256 ≡ x % 256 = omega arith in
      ap (λ (y : ℕ). y / 1 % 256) (Fields.one_word w p int_word (ap follows e) 0 ∙ zero_field (p + 12)) ∙ z

  -- 2.2.3 ARRAY: struct btf_array
  pub array_type_lem : kind_at ≡ 3 → array_type (type_p w p) ≡ w (p + 12)
  array_type_lem e = Fields.one_word w p btf_array (ap follows e) 0 ∙ zero_field (p + 12)

  pub array_index_type_lem : kind_at ≡ 3 → array_index_type (type_p w p) ≡ w (p + 12 + 4)
  array_index_type_lem e = Fields.one_word w p btf_array (ap follows e) 1

  pub array_nelems_lem : kind_at ≡ 3 → array_nelems (type_p w p) ≡ w (p + 12 + 8)
  array_nelems_lem e = Fields.one_word w p btf_array (ap follows e) 2

  -- 2.2.14 VAR: struct btf_var
  pub var_linkage_lem : kind_at ≡ 14 → var_linkage (type_p w p) ≡ w (p + 12)
  var_linkage_lem e = Fields.one_word w p btf_var (ap follows e) 0 ∙ zero_field (p + 12)

  -- 2.2.17 DECL_TAG: struct btf_decl_tag
  pub component_idx_lem : kind_at ≡ 17 → component_idx (type_p w p) ≡ w (p + 12)
  component_idx_lem e = Fields.one_word w p btf_decl_tag (ap follows e) 0 ∙ zero_field (p + 12)

  -- entry j of those that vlen counts
  module _ (j : ℕ) (l : j < vlen_at) where
    -- 2.2.4 STRUCT, 2.2.5 UNION: struct btf_member. The premise is `ap follows e` of e : kind_at ≡ 4, or 5
    pub member_name_off_lem : follows kind_at ≡ each btf_member → member_name_off (type_p w p) j ≡ w (p + 12 + j * 12)
    member_name_off_lem e = Fields.each_word w p btf_member e j 0 l ∙ zero_field (p + 12 + j * 12)

    pub member_type_lem : follows kind_at ≡ each btf_member → member_type (type_p w p) j ≡ w (p + 12 + j * 12 + 4)
    member_type_lem e = Fields.each_word w p btf_member e j 1 l

    pub member_offset_word : follows kind_at ≡ each btf_member → member_offset (type_p w p) j ≡ w (p + 12 + j * 12 + 8)
    member_offset_word e = Fields.each_word w p btf_member e j 2 l

    -- 2.2.5: kind_flag not set, "the offset contains only bit offset of the member"
    pub member_plain : follows kind_at ≡ each btf_member → w (p + 4) < 2147483648
        → (member_bit_offset (type_p w p) j ≡ w (p + 12 + j * 12 + 8)) × (member_bitfield_size (type_p w p) j ≡ 0)
    member_plain e h =
        let f : kind_flag (type_p w p) ≡ 0 = flag_word ∙ Fields.flag_clear (w (p + 4)) h in
        (ap (λ (y : ℕ). bit_offset y (member_offset (type_p w p) j)) f ∙ member_offset_word e, ap (λ (y : ℕ). bitfield_size y (member_offset (type_p w p) j)) f)

    -- kind_flag set: BTF_MEMBER_BIT_OFFSET and BTF_MEMBER_BITFIELD_SIZE
    pub member_flagged : follows kind_at ≡ each btf_member → 2147483648 ≤ w (p + 4) → w (p + 4) < 2 ^ 32 → w (p + 12 + j * 12 + 8) < 2 ^ 32
        → (member_bit_offset (type_p w p) j ≡ w (p + 12 + j * 12 + 8) % 16777216) × (member_bitfield_size (type_p w p) j ≡ w (p + 12 + j * 12 + 8) / 16777216)
    member_flagged e h u x =
        let f : kind_flag (type_p w p) ≡ 1 = flag_word ∙ Fields.flag_set (w (p + 4)) h u in
        let o : member_offset (type_p w p) j ≡ w (p + 12 + j * 12 + 8) = member_offset_word e in
        let b = Fields.bits_set 1 (w (p + 12 + j * 12 + 8)) (omega arith) x in
        ((λ i. bit_offset (f i) (o i)) ∙ b.0, (λ i. bitfield_size (f i) (o i)) ∙ b.1)

    -- 2.2.6 ENUM: struct btf_enum
    pub enum_name_off_lem : kind_at ≡ 6 → enum_name_off (type_p w p) j ≡ w (p + 12 + j * 8)
    enum_name_off_lem e = Fields.each_word w p btf_enum (ap follows e) j 0 l ∙ zero_field (p + 12 + j * 8)

    pub enum_val_lem : kind_at ≡ 6 → enum_val (type_p w p) j ≡ w (p + 12 + j * 8 + 4)
    enum_val_lem e = Fields.each_word w p btf_enum (ap follows e) j 1 l

    -- 2.2.13 FUNC_PROTO: struct btf_param
    pub param_name_off_lem : kind_at ≡ 13 → param_name_off (type_p w p) j ≡ w (p + 12 + j * 8)
    param_name_off_lem e = Fields.each_word w p btf_param (ap follows e) j 0 l ∙ zero_field (p + 12 + j * 8)

    pub param_type_lem : kind_at ≡ 13 → param_type (type_p w p) j ≡ w (p + 12 + j * 8 + 4)
    param_type_lem e = Fields.each_word w p btf_param (ap follows e) j 1 l

    -- 2.2.15 DATASEC: struct btf_var_secinfo
    pub secinfo_type_lem : kind_at ≡ 15 → secinfo_type (type_p w p) j ≡ w (p + 12 + j * 12)
    secinfo_type_lem e = Fields.each_word w p btf_var_secinfo (ap follows e) j 0 l ∙ zero_field (p + 12 + j * 12)

    pub secinfo_offset_lem : kind_at ≡ 15 → secinfo_offset (type_p w p) j ≡ w (p + 12 + j * 12 + 4)
    secinfo_offset_lem e = Fields.each_word w p btf_var_secinfo (ap follows e) j 1 l

    pub secinfo_size_lem : kind_at ≡ 15 → secinfo_size (type_p w p) j ≡ w (p + 12 + j * 12 + 8)
    secinfo_size_lem e = Fields.each_word w p btf_var_secinfo (ap follows e) j 2 l

    -- 2.2.19 ENUM64: struct btf_enum64
    pub enum64_name_off_lem : kind_at ≡ 19 → enum64_name_off (type_p w p) j ≡ w (p + 12 + j * 12)
    enum64_name_off_lem e = Fields.each_word w p btf_enum64 (ap follows e) j 0 l ∙ zero_field (p + 12 + j * 12)

    pub enum64_lo_lem : kind_at ≡ 19 → enum64_lo (type_p w p) j ≡ w (p + 12 + j * 12 + 4)
    enum64_lo_lem e = Fields.each_word w p btf_enum64 (ap follows e) j 1 l

    pub enum64_hi_lem : kind_at ≡ 19 → enum64_hi (type_p w p) j ≡ w (p + 12 + j * 12 + 8)
    enum64_hi_lem e = Fields.each_word w p btf_enum64 (ap follows e) j 2 l

-- 2.2.5, BTF_MEMBER_BIT_OFFSET and BTF_MEMBER_BITFIELD_SIZE: the bit offset and the bitfield size of the member at q, without kind_flag and with it
pub member_bits : (w : ℕ → ℕ) (flag q : ℕ) → w (q + 8) < 2 ^ 32
    → member_p flag w q ≡ member (w q) (w (q + 4)) (bit_offset flag (w (q + 8))) (bitfield_size flag (w (q + 8)))
member_bits = Fields.member_bits

-- 2.2.1: the ranges of the word of an INT
pub int_ranges : (x : ℕ) → x < 2 ^ 32 → (x % 256 ∷ x / 256 % 256 ∷ x / 65536 % 256 ∷ x / 16777216 % 16 ∷ x / 268435456 ∷ []) ≡ unpack btf_int x
int_ranges = Fields.int_ranges

---------------------------------------------------------------------------------------------------------------------------------------
-- (d) The definitions of `Documentation` agree with its tables

-- each field's bytes stand at the offset that the table of its struct gives (`Runs`: each field begins where the one before it ends)
pub field_stands : (big : Bool) (fs : List Field) (vs : List ℕ) → Tables.Runs 0 fs → length vs ≡ length fs → (i : ℕ) → i < length fs
    → take (Tables.width_of fs i) (drop (Tables.offset_of fs i) (lay_out big fs vs)) ≡ in_bytes big (Tables.width_of fs i) (get_or vs i 0)
field_stands = Tables.field_stands

pub all_run : Tables.Runs 0 btf_header × Tables.Runs 0 btf_type × Tables.Runs 0 int_word × Tables.Runs 0 btf_array × Tables.Runs 0 btf_member × Tables.Runs 0 btf_enum × Tables.Runs 0 btf_param × Tables.Runs 0 btf_var × Tables.Runs 0 btf_var_secinfo × Tables.Runs 0 btf_decl_tag × Tables.Runs 0 btf_enum64
all_run = (Tables.header_runs, Tables.type_runs, Tables.int_runs, Tables.array_runs, Tables.member_runs, Tables.enum_runs, Tables.param_runs, Tables.var_runs, Tables.secinfo_runs, Tables.tag_runs, Tables.enum64_runs)

-- 2.2.k: what follows struct btf_type is the structs that the table names, in sequence, one or "info.vlen number of" them
pub body_laid : (big : Bool) (flag : ℕ) (b : Body) → put_body big flag b ≡ put_each (lay_out big (Tables.struct_of (follows (kind_of b)))) (body_structs flag b)
body_laid = Tables.body_laid

pub body_count : (flag : ℕ) (b : Body) → length (body_structs flag b) ≡ Tables.count_of (follows (kind_of b)) (vlen_of b)
body_count = Tables.body_count

-- and the reader takes the length that the table gives, for every kind number and every vlen
pub lengths_agree : (k v : ℕ) → extra (kind k) v ≡ follow_size (follows k) v
lengths_agree = Tables.lengths_agree

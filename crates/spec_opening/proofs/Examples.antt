-- The definitions compute: the sample of document 01 opens, and a section for each of the causes 1 to 9 gives its number. Assumes nothing.
use Prim.Native.Nat.{ℕ}
use mathlib.Core.Path.{◌≡◌, refl}
use mathlib.Core.List.{List, [], ◌∷◌}
use Rattle.spec_bytes.specs.words.Words.{word_at, word_at_big, word_in}
use Rattle.spec_type_table.specs.Records.{section_word}
use Rattle.spec_linux_btf.specs.Reading.{word, kind, sound, named, passes, layout_sound, decode, places, decode_all}
use Rattle.spec_linux_btf.specs.Places.{kind_p, vlen_p, size_p, place_from}
use Rattle.spec_linux_btf.specs.Section.{is_big_endian, little_endian, word_of, hdr_len_of, type_off_of, type_len_of, str_off_of, str_len_of, type_area, string_area, header_sound, strings_sound, types_sound}
use Rattle.btf_open_causes.specs.references.Any.{any_below}
use Rattle.btf_open_causes.specs.references.Followed.{is_kind_among, type_count, entry_at, place_of, kind_at, count_for, id_place, count_at, id_at, followed_count, followed_id}
use Rattle.btf_open_causes.specs.references.References.{is_bad, is_some_bad, has_bad_reference}
use Rattle.btf_open_causes.specs.loops.Graph.{long, has_loop}
use Rattle.btf_open_causes.specs.loops.Loops.{deg_of, deg_at}
use Rattle.btf_open_causes.specs.prototypes.Track.{chase, leads_to}
use Rattle.btf_open_causes.specs.prototypes.Prototypes.{what_of, next_of, asks_at, asks_of, asker, any_leads}
use Rattle.btf_open_causes.specs.header.Header.{btf_of}
use Rattle.spec_opening.specs.Table.{types_of, enumerators_of, record_place, record_kind, empty_index, index_for, index_of}
use Rattle.spec_opening.specs.Causes.{cause1, cause2, cause3, cause4, cause5, cause6, cause7, cause8, cause9, table_of, first_of, opening_number}

-- 1 INT int, 2 STRUCT node (next, type 3, bit 0; v, type 1, bit 64), 3 PTR to 2
abbrev node : List ℕ
node =
    159 ∷ 235 ∷ 1 ∷ 0 ∷ 24 ∷ 0 ∷ 0 ∷ 0 ∷ 0 ∷ 0 ∷ 0 ∷ 0 ∷ 64 ∷ 0 ∷ 0 ∷ 0 ∷ 64 ∷ 0 ∷ 0 ∷ 0 ∷ 17 ∷ 0 ∷ 0 ∷ 0 ∷ 1 ∷ 0 ∷ 0 ∷ 0 ∷ 0 ∷ 0 ∷ 0 ∷ 1 ∷
    4 ∷ 0 ∷ 0 ∷ 0 ∷ 32 ∷ 0 ∷ 0 ∷ 0 ∷ 5 ∷ 0 ∷ 0 ∷ 0 ∷ 2 ∷ 0 ∷ 0 ∷ 4 ∷ 16 ∷ 0 ∷ 0 ∷ 0 ∷ 10 ∷ 0 ∷ 0 ∷ 0 ∷ 3 ∷ 0 ∷ 0 ∷ 0 ∷ 0 ∷ 0 ∷ 0 ∷ 0 ∷ 15 ∷
    0 ∷ 0 ∷ 0 ∷ 1 ∷ 0 ∷ 0 ∷ 0 ∷ 64 ∷ 0 ∷ 0 ∷ 0 ∷ 0 ∷ 0 ∷ 0 ∷ 0 ∷ 0 ∷ 0 ∷ 0 ∷ 2 ∷ 2 ∷ 0 ∷ 0 ∷ 0 ∷ 0 ∷ 105 ∷ 110 ∷ 116 ∷ 0 ∷ 110 ∷ 111 ∷
    100 ∷ 101 ∷ 0 ∷ 110 ∷ 101 ∷ 120 ∷ 116 ∷ 0 ∷ 118 ∷ 0 ∷ []

-- the same section, most significant byte first
abbrev node_big : List ℕ
node_big =
    235 ∷ 159 ∷ 1 ∷ 0 ∷ 0 ∷ 0 ∷ 0 ∷ 24 ∷ 0 ∷ 0 ∷ 0 ∷ 0 ∷ 0 ∷ 0 ∷ 0 ∷ 64 ∷ 0 ∷ 0 ∷ 0 ∷ 64 ∷ 0 ∷ 0 ∷ 0 ∷ 17 ∷ 0 ∷ 0 ∷ 0 ∷ 1 ∷ 1 ∷ 0 ∷ 0 ∷ 0 ∷ 0 ∷ 0 ∷
    0 ∷ 4 ∷ 0 ∷ 0 ∷ 0 ∷ 32 ∷ 0 ∷ 0 ∷ 0 ∷ 5 ∷ 4 ∷ 0 ∷ 0 ∷ 2 ∷ 0 ∷ 0 ∷ 0 ∷ 16 ∷ 0 ∷ 0 ∷ 0 ∷ 10 ∷ 0 ∷ 0 ∷ 0 ∷ 3 ∷ 0 ∷ 0 ∷ 0 ∷ 0 ∷ 0 ∷ 0 ∷ 0 ∷ 15 ∷ 0 ∷
    0 ∷ 0 ∷ 1 ∷ 0 ∷ 0 ∷ 0 ∷ 64 ∷ 0 ∷ 0 ∷ 0 ∷ 0 ∷ 2 ∷ 0 ∷ 0 ∷ 0 ∷ 0 ∷ 0 ∷ 0 ∷ 2 ∷ 0 ∷ 105 ∷ 110 ∷ 116 ∷ 0 ∷ 110 ∷ 111 ∷ 100 ∷ 101 ∷ 0 ∷ 110 ∷ 101 ∷
    120 ∷ 116 ∷ 0 ∷ 118 ∷ 0 ∷ []

-- its magic over words of the other order
abbrev half_turned : List ℕ
half_turned =
    235 ∷ 159 ∷ 1 ∷ 0 ∷ 24 ∷ 0 ∷ 0 ∷ 0 ∷ 0 ∷ 0 ∷ 0 ∷ 0 ∷ 64 ∷ 0 ∷ 0 ∷ 0 ∷ 64 ∷ 0 ∷ 0 ∷ 0 ∷ 17 ∷ 0 ∷ 0 ∷ 0 ∷ 1 ∷ 0 ∷ 0 ∷ 0 ∷ 0 ∷ 0 ∷ 0 ∷ 1 ∷ 4 ∷ 0 ∷
    0 ∷ 0 ∷ 32 ∷ 0 ∷ 0 ∷ 0 ∷ 5 ∷ 0 ∷ 0 ∷ 0 ∷ 2 ∷ 0 ∷ 0 ∷ 4 ∷ 16 ∷ 0 ∷ 0 ∷ 0 ∷ 10 ∷ 0 ∷ 0 ∷ 0 ∷ 3 ∷ 0 ∷ 0 ∷ 0 ∷ 0 ∷ 0 ∷ 0 ∷ 0 ∷ 15 ∷ 0 ∷ 0 ∷ 0 ∷ 1 ∷
    0 ∷ 0 ∷ 0 ∷ 64 ∷ 0 ∷ 0 ∷ 0 ∷ 0 ∷ 0 ∷ 0 ∷ 0 ∷ 0 ∷ 0 ∷ 0 ∷ 2 ∷ 2 ∷ 0 ∷ 0 ∷ 0 ∷ 0 ∷ 105 ∷ 110 ∷ 116 ∷ 0 ∷ 110 ∷ 111 ∷ 100 ∷ 101 ∷ 0 ∷ 110 ∷ 101 ∷
    120 ∷ 116 ∷ 0 ∷ 118 ∷ 0 ∷ []

-- version 2
abbrev version : List ℕ
version =
    159 ∷ 235 ∷ 2 ∷ 0 ∷ 24 ∷ 0 ∷ 0 ∷ 0 ∷ 0 ∷ 0 ∷ 0 ∷ 0 ∷ 64 ∷ 0 ∷ 0 ∷ 0 ∷ 64 ∷ 0 ∷ 0 ∷ 0 ∷ 17 ∷ 0 ∷ 0 ∷ 0 ∷ 1 ∷ 0 ∷ 0 ∷ 0 ∷ 0 ∷ 0 ∷ 0 ∷ 1 ∷
    4 ∷ 0 ∷ 0 ∷ 0 ∷ 32 ∷ 0 ∷ 0 ∷ 0 ∷ 5 ∷ 0 ∷ 0 ∷ 0 ∷ 2 ∷ 0 ∷ 0 ∷ 4 ∷ 16 ∷ 0 ∷ 0 ∷ 0 ∷ 10 ∷ 0 ∷ 0 ∷ 0 ∷ 3 ∷ 0 ∷ 0 ∷ 0 ∷ 0 ∷ 0 ∷ 0 ∷ 0 ∷ 15 ∷
    0 ∷ 0 ∷ 0 ∷ 1 ∷ 0 ∷ 0 ∷ 0 ∷ 64 ∷ 0 ∷ 0 ∷ 0 ∷ 0 ∷ 0 ∷ 0 ∷ 0 ∷ 0 ∷ 0 ∷ 0 ∷ 2 ∷ 2 ∷ 0 ∷ 0 ∷ 0 ∷ 0 ∷ 105 ∷ 110 ∷ 116 ∷ 0 ∷ 110 ∷ 111 ∷
    100 ∷ 101 ∷ 0 ∷ 110 ∷ 101 ∷ 120 ∷ 116 ∷ 0 ∷ 118 ∷ 0 ∷ []

-- the last string does not end in 0
abbrev unended : List ℕ
unended =
    159 ∷ 235 ∷ 1 ∷ 0 ∷ 24 ∷ 0 ∷ 0 ∷ 0 ∷ 0 ∷ 0 ∷ 0 ∷ 0 ∷ 64 ∷ 0 ∷ 0 ∷ 0 ∷ 64 ∷ 0 ∷ 0 ∷ 0 ∷ 16 ∷ 0 ∷ 0 ∷ 0 ∷ 1 ∷ 0 ∷ 0 ∷ 0 ∷ 0 ∷ 0 ∷ 0 ∷ 1 ∷
    4 ∷ 0 ∷ 0 ∷ 0 ∷ 32 ∷ 0 ∷ 0 ∷ 0 ∷ 5 ∷ 0 ∷ 0 ∷ 0 ∷ 2 ∷ 0 ∷ 0 ∷ 4 ∷ 16 ∷ 0 ∷ 0 ∷ 0 ∷ 10 ∷ 0 ∷ 0 ∷ 0 ∷ 3 ∷ 0 ∷ 0 ∷ 0 ∷ 0 ∷ 0 ∷ 0 ∷ 0 ∷ 15 ∷
    0 ∷ 0 ∷ 0 ∷ 1 ∷ 0 ∷ 0 ∷ 0 ∷ 64 ∷ 0 ∷ 0 ∷ 0 ∷ 0 ∷ 0 ∷ 0 ∷ 0 ∷ 0 ∷ 0 ∷ 0 ∷ 2 ∷ 2 ∷ 0 ∷ 0 ∷ 0 ∷ 0 ∷ 105 ∷ 110 ∷ 116 ∷ 0 ∷ 110 ∷ 111 ∷
    100 ∷ 101 ∷ 0 ∷ 110 ∷ 101 ∷ 120 ∷ 116 ∷ 0 ∷ 118 ∷ []

-- the last record is 4 bytes short
abbrev cut_short : List ℕ
cut_short =
    159 ∷ 235 ∷ 1 ∷ 0 ∷ 24 ∷ 0 ∷ 0 ∷ 0 ∷ 0 ∷ 0 ∷ 0 ∷ 0 ∷ 60 ∷ 0 ∷ 0 ∷ 0 ∷ 60 ∷ 0 ∷ 0 ∷ 0 ∷ 17 ∷ 0 ∷ 0 ∷ 0 ∷ 1 ∷ 0 ∷ 0 ∷ 0 ∷ 0 ∷ 0 ∷ 0 ∷ 1 ∷
    4 ∷ 0 ∷ 0 ∷ 0 ∷ 32 ∷ 0 ∷ 0 ∷ 0 ∷ 5 ∷ 0 ∷ 0 ∷ 0 ∷ 2 ∷ 0 ∷ 0 ∷ 4 ∷ 16 ∷ 0 ∷ 0 ∷ 0 ∷ 10 ∷ 0 ∷ 0 ∷ 0 ∷ 3 ∷ 0 ∷ 0 ∷ 0 ∷ 0 ∷ 0 ∷ 0 ∷ 0 ∷ 15 ∷
    0 ∷ 0 ∷ 0 ∷ 1 ∷ 0 ∷ 0 ∷ 0 ∷ 64 ∷ 0 ∷ 0 ∷ 0 ∷ 0 ∷ 0 ∷ 0 ∷ 0 ∷ 0 ∷ 0 ∷ 0 ∷ 2 ∷ 0 ∷ 105 ∷ 110 ∷ 116 ∷ 0 ∷ 110 ∷ 111 ∷ 100 ∷ 101 ∷ 0 ∷
    110 ∷ 101 ∷ 120 ∷ 116 ∷ 0 ∷ 118 ∷ 0 ∷ []

-- a PTR to 4, and there are 4 types, void counted
abbrev past_count : List ℕ
past_count =
    159 ∷ 235 ∷ 1 ∷ 0 ∷ 24 ∷ 0 ∷ 0 ∷ 0 ∷ 0 ∷ 0 ∷ 0 ∷ 0 ∷ 64 ∷ 0 ∷ 0 ∷ 0 ∷ 64 ∷ 0 ∷ 0 ∷ 0 ∷ 17 ∷ 0 ∷ 0 ∷ 0 ∷ 1 ∷ 0 ∷ 0 ∷ 0 ∷ 0 ∷ 0 ∷ 0 ∷ 1 ∷
    4 ∷ 0 ∷ 0 ∷ 0 ∷ 32 ∷ 0 ∷ 0 ∷ 0 ∷ 5 ∷ 0 ∷ 0 ∷ 0 ∷ 2 ∷ 0 ∷ 0 ∷ 4 ∷ 16 ∷ 0 ∷ 0 ∷ 0 ∷ 10 ∷ 0 ∷ 0 ∷ 0 ∷ 3 ∷ 0 ∷ 0 ∷ 0 ∷ 0 ∷ 0 ∷ 0 ∷ 0 ∷ 15 ∷
    0 ∷ 0 ∷ 0 ∷ 1 ∷ 0 ∷ 0 ∷ 0 ∷ 64 ∷ 0 ∷ 0 ∷ 0 ∷ 0 ∷ 0 ∷ 0 ∷ 0 ∷ 0 ∷ 0 ∷ 0 ∷ 2 ∷ 4 ∷ 0 ∷ 0 ∷ 0 ∷ 0 ∷ 105 ∷ 110 ∷ 116 ∷ 0 ∷ 110 ∷ 111 ∷
    100 ∷ 101 ∷ 0 ∷ 110 ∷ 101 ∷ 120 ∷ 116 ∷ 0 ∷ 118 ∷ 0 ∷ []

-- 3 is a FUNC_PROTO, and next is of type 3
abbrev proto_member : List ℕ
proto_member =
    159 ∷ 235 ∷ 1 ∷ 0 ∷ 24 ∷ 0 ∷ 0 ∷ 0 ∷ 0 ∷ 0 ∷ 0 ∷ 0 ∷ 64 ∷ 0 ∷ 0 ∷ 0 ∷ 64 ∷ 0 ∷ 0 ∷ 0 ∷ 17 ∷ 0 ∷ 0 ∷ 0 ∷ 1 ∷ 0 ∷ 0 ∷ 0 ∷ 0 ∷ 0 ∷ 0 ∷ 1 ∷
    4 ∷ 0 ∷ 0 ∷ 0 ∷ 32 ∷ 0 ∷ 0 ∷ 0 ∷ 5 ∷ 0 ∷ 0 ∷ 0 ∷ 2 ∷ 0 ∷ 0 ∷ 4 ∷ 16 ∷ 0 ∷ 0 ∷ 0 ∷ 10 ∷ 0 ∷ 0 ∷ 0 ∷ 3 ∷ 0 ∷ 0 ∷ 0 ∷ 0 ∷ 0 ∷ 0 ∷ 0 ∷ 15 ∷
    0 ∷ 0 ∷ 0 ∷ 1 ∷ 0 ∷ 0 ∷ 0 ∷ 64 ∷ 0 ∷ 0 ∷ 0 ∷ 0 ∷ 0 ∷ 0 ∷ 0 ∷ 0 ∷ 0 ∷ 0 ∷ 13 ∷ 0 ∷ 0 ∷ 0 ∷ 0 ∷ 0 ∷ 105 ∷ 110 ∷ 116 ∷ 0 ∷ 110 ∷ 111 ∷
    100 ∷ 101 ∷ 0 ∷ 110 ∷ 101 ∷ 120 ∷ 116 ∷ 0 ∷ 118 ∷ 0 ∷ []

-- 3 is a PTR to itself
abbrev loops : List ℕ
loops =
    159 ∷ 235 ∷ 1 ∷ 0 ∷ 24 ∷ 0 ∷ 0 ∷ 0 ∷ 0 ∷ 0 ∷ 0 ∷ 0 ∷ 64 ∷ 0 ∷ 0 ∷ 0 ∷ 64 ∷ 0 ∷ 0 ∷ 0 ∷ 17 ∷ 0 ∷ 0 ∷ 0 ∷ 1 ∷ 0 ∷ 0 ∷ 0 ∷ 0 ∷ 0 ∷ 0 ∷ 1 ∷
    4 ∷ 0 ∷ 0 ∷ 0 ∷ 32 ∷ 0 ∷ 0 ∷ 0 ∷ 5 ∷ 0 ∷ 0 ∷ 0 ∷ 2 ∷ 0 ∷ 0 ∷ 4 ∷ 16 ∷ 0 ∷ 0 ∷ 0 ∷ 10 ∷ 0 ∷ 0 ∷ 0 ∷ 3 ∷ 0 ∷ 0 ∷ 0 ∷ 0 ∷ 0 ∷ 0 ∷ 0 ∷ 15 ∷
    0 ∷ 0 ∷ 0 ∷ 1 ∷ 0 ∷ 0 ∷ 0 ∷ 64 ∷ 0 ∷ 0 ∷ 0 ∷ 0 ∷ 0 ∷ 0 ∷ 0 ∷ 0 ∷ 0 ∷ 0 ∷ 2 ∷ 3 ∷ 0 ∷ 0 ∷ 0 ∷ 0 ∷ 105 ∷ 110 ∷ 116 ∷ 0 ∷ 110 ∷ 111 ∷
    100 ∷ 101 ∷ 0 ∷ 110 ∷ 101 ∷ 120 ∷ 116 ∷ 0 ∷ 118 ∷ 0 ∷ []

node_number : opening_number 8 node 16640 ≡ 0
unfolding opening_number first_of cause1 cause2 cause3 header_sound is_big_endian little_endian hdr_len_of type_off_of type_len_of str_off_of str_len_of word cause4 strings_sound string_area cause5 types_sound type_area layout_sound passes sound named kind cause6 cause7 cause8 cause9 table_of btf_of types_of enumerators_of decode_all decode places index_of index_for empty_index record_place record_kind place_from kind_p size_p vlen_p has_bad_reference is_some_bad is_bad any_leads asker asks_of asks_at leads_to chase what_of next_of has_loop any_below long deg_of deg_at followed_count followed_id count_at id_at count_for id_place kind_at place_of entry_at type_count is_kind_among section_word word_of word_in word_at
node_number = refl

node_big_number : opening_number 8 node_big 16640 ≡ 0
unfolding opening_number first_of cause1 cause2 cause3 header_sound is_big_endian little_endian hdr_len_of type_off_of type_len_of str_off_of str_len_of word cause4 strings_sound string_area cause5 types_sound type_area layout_sound passes sound named kind cause6 cause7 cause8 cause9 table_of btf_of types_of enumerators_of decode_all decode places index_of index_for empty_index record_place record_kind place_from kind_p size_p vlen_p has_bad_reference is_some_bad is_bad any_leads asker asks_of asks_at leads_to chase what_of next_of has_loop any_below long deg_of deg_at followed_count followed_id count_at id_at count_for id_place kind_at place_of entry_at type_count is_kind_among section_word word_of word_in word_at_big
node_big_number = refl

half_turned_number : opening_number 8 half_turned 16640 ≡ 3
unfolding opening_number first_of cause1 cause2 cause3 header_sound is_big_endian little_endian hdr_len_of type_off_of type_len_of str_off_of str_len_of word
half_turned_number = refl

version_number : opening_number 8 version 16640 ≡ 3
unfolding opening_number first_of cause1 cause2 cause3 header_sound is_big_endian little_endian hdr_len_of type_off_of type_len_of str_off_of str_len_of word
version_number = refl

unended_number : opening_number 8 unended 16640 ≡ 4
unfolding opening_number first_of cause1 cause2 cause3 header_sound is_big_endian little_endian hdr_len_of type_off_of type_len_of str_off_of str_len_of word cause4 strings_sound string_area
unended_number = refl

cut_short_number : opening_number 8 cut_short 16640 ≡ 5
unfolding opening_number first_of cause1 cause2 cause3 header_sound is_big_endian little_endian hdr_len_of type_off_of type_len_of str_off_of str_len_of word cause4 strings_sound string_area cause5 types_sound type_area layout_sound passes sound named kind
cut_short_number = refl

past_count_number : opening_number 8 past_count 16640 ≡ 6
unfolding opening_number first_of cause1 cause2 cause3 header_sound is_big_endian little_endian hdr_len_of type_off_of type_len_of str_off_of str_len_of word cause4 strings_sound string_area cause5 types_sound type_area layout_sound passes sound named kind cause6 cause7 cause8 cause9 table_of btf_of types_of enumerators_of decode_all decode places index_of index_for empty_index record_place record_kind place_from kind_p size_p vlen_p has_bad_reference is_some_bad is_bad any_leads asker asks_of asks_at leads_to chase what_of next_of has_loop any_below long deg_of deg_at followed_count followed_id count_at id_at count_for id_place kind_at place_of entry_at type_count is_kind_among section_word word_of word_in word_at
past_count_number = refl

proto_member_number : opening_number 8 proto_member 16640 ≡ 7
unfolding opening_number first_of cause1 cause2 cause3 header_sound is_big_endian little_endian hdr_len_of type_off_of type_len_of str_off_of str_len_of word cause4 strings_sound string_area cause5 types_sound type_area layout_sound passes sound named kind cause6 cause7 cause8 cause9 table_of btf_of types_of enumerators_of decode_all decode places index_of index_for empty_index record_place record_kind place_from kind_p size_p vlen_p has_bad_reference is_some_bad is_bad any_leads asker asks_of asks_at leads_to chase what_of next_of has_loop any_below long deg_of deg_at followed_count followed_id count_at id_at count_for id_place kind_at place_of entry_at type_count is_kind_among section_word word_of word_in word_at
proto_member_number = refl

loops_number : opening_number 8 loops 16640 ≡ 8
unfolding opening_number first_of cause1 cause2 cause3 header_sound is_big_endian little_endian hdr_len_of type_off_of type_len_of str_off_of str_len_of word cause4 strings_sound string_area cause5 types_sound type_area layout_sound passes sound named kind cause6 cause7 cause8 cause9 table_of btf_of types_of enumerators_of decode_all decode places index_of index_for empty_index record_place record_kind place_from kind_p size_p vlen_p has_bad_reference is_some_bad is_bad any_leads asker asks_of asks_at leads_to chase what_of next_of has_loop any_below long deg_of deg_at followed_count followed_id count_at id_at count_for id_place kind_at place_of entry_at type_count is_kind_among section_word word_of word_in word_at
loops_number = refl

pointer_number : opening_number 6 node 16640 ≡ 1
unfolding opening_number first_of cause1
pointer_number = refl

-- work that is one byte short
short_number : opening_number 8 node 16639 ≡ 9
unfolding opening_number first_of cause1 cause2 cause3 header_sound is_big_endian little_endian hdr_len_of type_off_of type_len_of str_off_of str_len_of word cause4 strings_sound string_area cause5 types_sound type_area layout_sound passes sound named kind cause6 cause7 cause8 cause9 table_of btf_of types_of enumerators_of decode_all decode places index_of index_for empty_index record_place record_kind place_from kind_p size_p vlen_p has_bad_reference is_some_bad is_bad any_leads asker asks_of asks_at leads_to chase what_of next_of has_loop any_below long deg_of deg_at followed_count followed_id count_at id_at count_for id_place kind_at place_of entry_at type_count is_kind_among section_word word_of word_in word_at
short_number = refl

-- A section cut down by the definition, and word by word as the code writes it: the same bytes, by computation.
use Prim.Native.Nat.{ℕ, zero, suc, ◌+◌, ◌*◌}
use mathlib.Core.Path.{◌≡◌, refl}
use mathlib.Core.Bool.{Bool, true, false, not}
use mathlib.Core.List.{List, [], ◌∷◌}
use lib.Dec.{eqb}
use Rattle.spec_bytes.specs.words.Words.{word_at, word_at_big, word_in}
use Rattle.spec_linux_btf.specs.Documentation.{member, enumerator, param, secinfo, enumerator64, int, ptr, array, struct, enum, func, func_proto, var, datasec, decl_tag, enum64, Described, described, encode, encode_all, encode_strings, encode_header, encode_section}
use Rattle.spec_linux_btf.specs.Reading.{kind, word, decode, places, decode_all}
use Rattle.spec_linux_btf.specs.Section.{is_big_endian, hdr_len_of, type_off_of, type_len_of, str_off_of, str_len_of, type_area, string_area}
use Rattle.spec_c_dumper.specs.rules.Types.{is_empty}
use Rattle.spec_c_dumper.specs.rules.Names.{same_bytes}
use Rattle.spec_type_table.specs.declared.types.TypeTable.{TypeTable}
use Rattle.spec_type_table.specs.Records.{section_word}
use Rattle.spec_type_table.specs.Names.{up_to_zero, name_at}
use Rattle.btf_open_causes.specs.references.Followed.{type_count, entry_at}
use Rattle.spec_cut.specs.section.Renumbered.{kept_to, new_id, kept_types, renamed}
use Rattle.spec_cut.specs.section.Strings.{mentions, all_mentions, has, add_name, add_all, place_in}
use Rattle.spec_cut.specs.section.Section.{cut_section}
use Rattle.session_cut_marks.specs.roles.Words.{digit_at, fixed_words, entry_words, roles, column, role, words_in, word_of}
use Rattle.session_cut_marks.specs.mentioned.Names as code
use Rattle.session_cut_marks.specs.mentioned.Strings.{name_bytes, names_bytes, own_bytes, news_bytes, strings_bytes}
use Rattle.session_cut.specs.writer.Bytes.{word_bytes, magic_bytes, head_bytes, type_size, types_size, new_word, record_bytes, type_bytes, types_bytes, all_bytes}

-- 1 INT int, 2 STRUCT node (next, type 3; v, type 1), 3 PTR to 2, 4 INT of another name; the strings are stored in another order than they are mentioned
abbrev types : List Described
types =
    described 8 0 4 (int 0 32 0 0 1 0)
    ∷ described 3 0 16 (struct (member 12 3 0 0 ∷ member 1 1 64 0 ∷ []))
    ∷ described 0 0 2 (ptr 0)
    ∷ described 17 0 1 (int 0 8 0 0 0 0)
    ∷ []

abbrev strings : List ℕ
strings = 0 ∷ 118 ∷ 0 ∷ 110 ∷ 111 ∷ 100 ∷ 101 ∷ 0 ∷ 105 ∷ 110 ∷ 116 ∷ 0 ∷ 110 ∷ 101 ∷ 120 ∷ 116 ∷ 0 ∷ 99 ∷ 0 ∷ []

-- the first three are kept
abbrev kept : ℕ → Bool
kept zero = false
kept (suc zero) = true
kept (suc (suc zero)) = true
kept (suc (suc (suc zero))) = true
kept (suc (suc (suc (suc x)))) = false

abbrev table : Bool → TypeTable
table big = record { ptr_sz = 8; union_as_struct = false; big_endian = big; strong_arrays = false; placing = false; types = 5; strs = 104 }

abbrev index : List ℕ
index = 0 ∷ (24 * 32 + 1) ∷ (40 * 32 + 4) ∷ (76 * 32 + 2) ∷ (88 * 32 + 1) ∷ []

abbrev numbers : List ℕ
numbers = 0 ∷ 1 ∷ 2 ∷ 3 ∷ 0 ∷ []

-- the lengths of the strings before each type: "int" after type 1, "node", "next" and "v" after type 2
abbrev bases : List ℕ
bases = 1 ∷ 1 ∷ 5 ∷ 17 ∷ 17 ∷ []

abbrev section : Bool → List ℕ
section big = encode_section big 0 types strings

little : all_bytes (table false) (section false) index numbers bases 64 17 ≡ cut_section kept (section false)
unfolding word_at word_at_big word_in encode encode_all encode_strings encode_header encode_section kind word decode places decode_all is_big_endian hdr_len_of type_off_of type_len_of str_off_of str_len_of type_area string_area is_empty same_bytes section_word up_to_zero name_at type_count entry_at kept_to new_id kept_types renamed mentions all_mentions has add_name add_all place_in cut_section digit_at fixed_words entry_words roles column role words_in word_of code.is_name code.or_name code.named_to code.first_from code.mentions code.or_mentions code.mentioned_to code.is_new code.new_size code.new_sizes code.place_at code.place_from code.place_of word_bytes magic_bytes head_bytes new_word record_bytes type_bytes types_bytes name_bytes names_bytes own_bytes news_bytes strings_bytes all_bytes
little = refl

big : all_bytes (table true) (section true) index numbers bases 64 17 ≡ cut_section kept (section true)
unfolding word_at word_at_big word_in encode encode_all encode_strings encode_header encode_section kind word decode places decode_all is_big_endian hdr_len_of type_off_of type_len_of str_off_of str_len_of type_area string_area is_empty same_bytes section_word up_to_zero name_at type_count entry_at kept_to new_id kept_types renamed mentions all_mentions has add_name add_all place_in cut_section digit_at fixed_words entry_words roles column role words_in word_of code.is_name code.or_name code.named_to code.first_from code.mentions code.or_mentions code.mentioned_to code.is_new code.new_size code.new_sizes code.place_at code.place_from code.place_of word_bytes magic_bytes head_bytes new_word record_bytes type_bytes types_bytes name_bytes names_bytes own_bytes news_bytes strings_bytes all_bytes
big = refl

-- Other kinds, an id that is not followed and not kept (an ARRAY's index type, an entry of a DATASEC), names that are stored twice or end in one another: 1 INT,
-- 2 ARRAY, 3 FUNC_PROTO, 4 ENUM, 5 ENUM64, 6 FUNC, 7 VAR, 8 DATASEC, 9 INT, 10 DECL_TAG on 2
abbrev others : List Described
others =
    described 3 0 4 (int 0 32 0 0 1 0)
    ∷ described 0 0 0 (array 0 1 9 7)
    ∷ described 0 0 1 (func_proto (param 1 2 ∷ param 5 0 ∷ []))
    ∷ described 2 0 4 (enum (enumerator 7 1 ∷ enumerator 1 4294967295 ∷ []))
    ∷ described 0 1 8 (enum64 (enumerator64 5 1 2 ∷ []))
    ∷ described 7 0 3 (func 1)
    ∷ described 5 0 4 (var 0 1)
    ∷ described 1 0 8 (datasec (secinfo 7 0 4 ∷ secinfo 9 4 4 ∷ []))
    ∷ described 1 0 4 (int 0 32 0 0 0 0)
    ∷ described 3 0 2 (decl_tag 0 4294967295)
    ∷ []

-- abx, x, bx
abbrev shared : List ℕ
shared = 0 ∷ 97 ∷ 98 ∷ 120 ∷ 0 ∷ 120 ∷ 0 ∷ 98 ∷ 120 ∷ 0 ∷ []

-- all but 9
abbrev all_but : ℕ → Bool
all_but x = not (eqb x 9)

abbrev other_table : Bool → TypeTable
other_table big = record { ptr_sz = 8; union_as_struct = false; big_endian = big; strong_arrays = false; placing = false; types = 11; strs = 240 }

abbrev other_index : List ℕ
other_index = 0 ∷ (24 * 32 + 1) ∷ (40 * 32 + 3) ∷ (64 * 32 + 13) ∷ (92 * 32 + 6) ∷ (120 * 32 + 19) ∷ (144 * 32 + 12) ∷ (156 * 32 + 14) ∷ (172 * 32 + 15) ∷ (208 * 32 + 1) ∷ (224 * 32 + 17) ∷ []

abbrev other_numbers : List ℕ
other_numbers = 0 ∷ 1 ∷ 2 ∷ 3 ∷ 4 ∷ 5 ∷ 6 ∷ 7 ∷ 8 ∷ 0 ∷ 9 ∷ []

abbrev zeros : List ℕ
zeros = 0 ∷ 0 ∷ 0 ∷ 0 ∷ 0 ∷ 0 ∷ 0 ∷ 0 ∷ 0 ∷ 0 ∷ 0 ∷ []

abbrev other_section : Bool → List ℕ
other_section big = encode_section big 3 others shared

-- measured and written
abbrev written_of : Bool → List ℕ
written_of big = all_bytes (other_table big) (other_section big) other_index other_numbers (code.bases_to (other_table big) (other_section big) other_index other_numbers zeros 11)
    (types_size (other_table big) (other_section big) other_index other_numbers 11) (code.base_of (other_table big) (other_section big) other_index other_numbers 11)

other_little : written_of false ≡ cut_section all_but (other_section false)
unfolding word_at word_at_big word_in encode encode_all encode_strings encode_header encode_section kind word decode places decode_all is_big_endian hdr_len_of type_off_of type_len_of str_off_of str_len_of type_area string_area is_empty same_bytes section_word up_to_zero name_at type_count entry_at kept_to new_id kept_types renamed mentions all_mentions has add_name add_all place_in cut_section digit_at fixed_words entry_words roles column role words_in word_of code.is_name code.or_name code.named_to code.first_from code.mentions code.or_mentions code.mentioned_to code.is_new code.new_size code.new_sizes code.place_at code.place_from code.place_of word_bytes magic_bytes head_bytes new_word record_bytes type_bytes types_bytes name_bytes names_bytes own_bytes news_bytes strings_bytes all_bytes types_size type_size code.record_size code.base_of code.bases_to
other_little = refl

other_big : written_of true ≡ cut_section all_but (other_section true)
unfolding word_at word_at_big word_in encode encode_all encode_strings encode_header encode_section kind word decode places decode_all is_big_endian hdr_len_of type_off_of type_len_of str_off_of str_len_of type_area string_area is_empty same_bytes section_word up_to_zero name_at type_count entry_at kept_to new_id kept_types renamed mentions all_mentions has add_name add_all place_in cut_section digit_at fixed_words entry_words roles column role words_in word_of code.is_name code.or_name code.named_to code.first_from code.mentions code.or_mentions code.mentioned_to code.is_new code.new_size code.new_sizes code.place_at code.place_from code.place_of word_bytes magic_bytes head_bytes new_word record_bytes type_bytes types_bytes name_bytes names_bytes own_bytes news_bytes strings_bytes all_bytes types_size type_size code.record_size code.base_of code.bases_to
other_big = refl

-- The samples hold, by computation on their sections and on the rules. Assumes nothing.
use Prim.Native.Nat.{ℕ, zero, suc}
use mathlib.Core.Path.{◌≡◌, refl, ◌∙◌, ap}
use mathlib.Core.Bool.{Bool, true, false, ◌&&◌}
use mathlib.Core.List.{List, [], ◌∷◌}
use native.Mathlib.Omega.{arith}
use lib.Dec.{ltb}
use borrow.Author.Tests.{ltb-true}
use Rattle.std.proofs.lemmas.Bool.{and_parts}
use Rattle.spec_bytes.specs.words.Words.{one_more, word_at, word_in}
use Rattle.spec_bytes.specs.text.Text.{ascii, join, bytes, pfx}
use Rattle.spec_bytes.specs.text.Decimal.{digits, decimal}
use Rattle.spec_c_dumper.specs.rules.Order.{bind, each, meet, push_if, enter, alias, fresh, visit, order}
use Rattle.spec_c_dumper.specs.rules.Machine.{obind, eeach, once, mention, again, close, leaf, within, begin, allowed, look, emit, shut, emitted, ordered, gate, single, onward, from, every}
use Rattle.spec_c_dumper.specs.rules.Writer.{ask_then, checked, said_text, said_names, after, next, put, stop, given, ◌⨾◌}
use Rattle.spec_c_dumper.specs.rules.Types.{is_empty, BtfType, Void, Composite}
use Rattle.spec_c_dumper.specs.rules.Layout.{larger, smaller, octets, size_of, get_size_of, align_members, align_of, get_align_of, off_align, members_packed, is_struct_packed, chip_away_bits, pad_of, pads_of, gap_pads, pads_before, bit_padding, end_of}
use Rattle.spec_c_dumper.specs.rules.Placing.{body_packed, tail_pads}
use Rattle.spec_c_dumper.specs.rules.Names.{spelled, resolving, resolve_type_name, resolve_name, same_bytes, holds, holders, with_one, type_version, value_version, starts_with, contains, builtin, escaped_byte, escaped}
use Rattle.spec_c_dumper.specs.rules.Decl.{deeper, sep_name, keyword, attribute, decl_tag, decl_tags, qualifier, enum_value, enum64_value, chain_on, chain_of, mods, no_mods, shown_params, unit_word, pads, last_newline, own_line, tail_text, bit_size_of, emit_composite_fwd, emit_fwd_def, enum_word, emit_values, enum_body, emit_enum_def, emit_name, brackets, parens, emit_param, emit_params, base_word, emit_array, emit_proto, param_list, chain_loop, emit_members, composite_head, composite_end, composite_body, composite_def, emit_typedef_def, emit_type_decl, emit_type_chain, emit_composite_def}
use Rattle.spec_c_dumper.specs.rules.Emit.{definition, shown, forward}
use Rattle.spec_c_dumper.specs.rules.Listed.{tags_id, tags_from, listed}
use Rattle.spec_c_dumper.specs.needs.Lists.{tags_of, afresh}
use Rattle.spec_c_dumper.specs.needs.Session.{fitting, line_of, text_of, answer_to, dumped, printed, program}
use Rattle.spec_type_table.specs.Records.{section_word}
use Rattle.spec_linux_btf.specs.Reading.{Bytes, word, kind, sound, named, passes, layout_sound, decode, places, decode_all}
use Rattle.spec_linux_btf.specs.Places.{kind_p, vlen_p, size_p, place_from}
use Rattle.spec_linux_btf.specs.Section.{is_big_endian, little_endian, word_of, hdr_len_of, type_off_of, type_len_of, str_off_of, str_len_of, type_area, string_area, header_sound, strings_sound, types_sound}
use Rattle.btf_open_causes.specs.references.Any.{any_below}
use Rattle.btf_open_causes.specs.references.Followed.{is_kind_among, type_count, entry_at, place_of, kind_at, count_for, id_place, count_at, id_at, followed_count, followed_id}
use Rattle.btf_open_causes.specs.references.References.{is_bad, is_some_bad, has_bad_reference}
use Rattle.btf_open_causes.specs.loops.Graph.{long, has_loop}
use Rattle.btf_open_causes.specs.loops.Loops.{deg_of, deg_at}
use Rattle.btf_open_causes.specs.prototypes.Track.{chase, leads_to}
use Rattle.btf_open_causes.specs.prototypes.Prototypes.{what_of, next_of, asks_at, asks_of, asker, any_leads}
use Rattle.btf_open_causes.specs.header.Header.{btf_of}
use Rattle.spec_opening.specs.Table.{types_of, enumerators_of, record_place, record_kind, empty_index, index_for, index_of}
use Rattle.spec_opening.specs.Described.{type_list}
use Rattle.spec_opening.specs.Causes.{cause1, cause2, cause3, cause4, cause5, cause6, cause7, cause8, cause9, table_of, first_of, opening_number}
use Rattle.spec_type_table.specs.Documented.{kept}
use Rattle.spec_type_table.specs.Names.{up_to_zero, name_at}
use Rattle.spec_c_dumper.specs.rules.Samples as rules
use Rattle.btfdump_run.specs.printed.Printed.{refused_line}
use Rattle.proof_calls.specs.program.Claims.{number}
use Rattle.spec_opening.specs.Samples.{node}
use Rattle.spec_opening.proofs.Samples.{samples as described_samples}
use Rattle.proof_calls.specs.program.Samples.{itself, Samples}
use Rattle.proof_calls.proofs.program.Claims.{runs}

all_below : List ℕ → Bool
all_below [] = true
all_below (x ∷ l) = ltb x 256 && all_below l

all_bytes : (l : List ℕ) → all_below l ≡ true → Bytes l
unfolding all_below
all_bytes [] h i = omega arith
all_bytes (x ∷ l) h zero = ltb-true x 256 (and_parts (ltb x 256) (all_below l) h).0
all_bytes (x ∷ l) h (suc i) = all_bytes l (and_parts (ltb x 256) (all_below l) h).1 i

node_bytes : Bytes node
unfolding all_below
node_bytes = all_bytes node refl

itself_bytes : Bytes itself
unfolding all_below
itself_bytes = all_bytes itself refl

-- opening accepts both, and not the empty section
node_opens : number node ≡ 0
unfolding opening_number first_of cause1 cause2 cause3 header_sound is_big_endian little_endian hdr_len_of type_off_of type_len_of str_off_of str_len_of word cause4 strings_sound string_area cause5 types_sound type_area layout_sound passes sound named kind cause6 cause7 cause8 cause9 table_of btf_of types_of enumerators_of decode_all decode places index_of index_for empty_index record_place record_kind place_from kind_p size_p vlen_p has_bad_reference is_some_bad is_bad any_leads asker asks_of asks_at leads_to chase what_of next_of has_loop any_below long deg_of deg_at followed_count followed_id count_at id_at count_for id_place kind_at place_of entry_at type_count is_kind_among section_word word_of word_in word_at
node_opens = refl

itself_opens : number itself ≡ 0
unfolding opening_number first_of cause1 cause2 cause3 header_sound is_big_endian little_endian hdr_len_of type_off_of type_len_of str_off_of str_len_of word cause4 strings_sound string_area cause5 types_sound type_area layout_sound passes sound named kind cause6 cause7 cause8 cause9 table_of btf_of types_of enumerators_of decode_all decode places index_of index_for empty_index record_place record_kind place_from kind_p size_p vlen_p has_bad_reference is_some_bad is_bad any_leads asker asks_of asks_at leads_to chase what_of next_of has_loop any_below long deg_of deg_at followed_count followed_id count_at id_at count_for id_place kind_at place_of entry_at type_count is_kind_among section_word word_of word_in word_at
itself_opens = refl

nothing_opens : number [] ≡ 3
unfolding opening_number first_of cause1 cause2 cause3 header_sound is_big_endian little_endian hdr_len_of type_off_of type_len_of str_off_of str_len_of word cause4 strings_sound string_area cause5 types_sound type_area layout_sound passes sound named kind cause6 cause7 cause8 cause9 table_of btf_of types_of enumerators_of decode_all decode places index_of index_for empty_index record_place record_kind place_from kind_p size_p vlen_p has_bad_reference is_some_bad is_bad any_leads asker asks_of asks_at leads_to chase what_of next_of has_loop any_below long deg_of deg_at followed_count followed_id count_at id_at count_for id_place kind_at place_of entry_at type_count is_kind_among section_word word_of word_in word_at
nothing_opens = refl

-- their types are those of the samples, and the rules print the text
itself_types : type_list itself ≡ Void ∷ Composite true (ascii "s") 4 (rules.member "a" 1 0 ∷ []) ∷ []
unfolding kept type_area is_big_endian hdr_len_of type_off_of type_len_of str_off_of str_len_of string_area word kind decode_all decode places name_at up_to_zero word_in word_at
itself_types = refl

node_text : program rules.node ≡ ascii "struct node {\n\tstruct node *next;\n\tint v;\n};\n\n"
unfolding one_more join bytes pfx digits decimal bind each meet push_if enter alias fresh visit order obind eeach once mention again close leaf within begin
    allowed look emit shut emitted ordered gate single onward from every ask_then checked said_text said_names after next put stop given ◌⨾◌ is_empty
    larger smaller octets size_of get_size_of align_members align_of get_align_of off_align members_packed is_struct_packed chip_away_bits pad_of pads_of
    gap_pads pads_before bit_padding end_of spelled resolving resolve_type_name resolve_name same_bytes holds holders with_one type_version value_version starts_with
    contains builtin escaped_byte escaped deeper sep_name keyword attribute decl_tag decl_tags qualifier enum_value enum64_value chain_on chain_of mods
    no_mods shown_params unit_word pads last_newline own_line tail_text body_packed tail_pads bit_size_of emit_composite_fwd emit_fwd_def enum_word emit_values enum_body emit_enum_def emit_name brackets
    parens emit_param emit_params base_word emit_array emit_proto param_list chain_loop emit_members composite_head composite_end composite_body
    composite_def emit_typedef_def emit_type_decl emit_type_chain emit_composite_def definition shown forward tags_id tags_from tags_of afresh fitting line_of
    text_of answer_to dumped printed program
node_text = refl

itself_text : program rules.itself ≡ ascii "refused 13\n"
unfolding one_more join bytes pfx digits decimal bind each meet push_if enter alias fresh visit order obind eeach once mention again close leaf within begin
    allowed look emit shut emitted ordered gate single onward from every ask_then checked said_text said_names after next put stop given ◌⨾◌ is_empty
    larger smaller octets size_of get_size_of align_members align_of get_align_of off_align members_packed is_struct_packed chip_away_bits pad_of pads_of
    gap_pads pads_before bit_padding end_of spelled resolving resolve_type_name resolve_name same_bytes holds holders with_one type_version value_version starts_with
    contains builtin escaped_byte escaped deeper sep_name keyword attribute decl_tag decl_tags qualifier enum_value enum64_value chain_on chain_of mods
    no_mods shown_params unit_word pads last_newline own_line tail_text body_packed tail_pads bit_size_of emit_composite_fwd emit_fwd_def enum_word emit_values enum_body emit_enum_def emit_name brackets
    parens emit_param emit_params base_word emit_array emit_proto param_list chain_loop emit_members composite_head composite_end composite_body
    composite_def emit_typedef_def emit_type_decl emit_type_chain emit_composite_def definition shown forward tags_id tags_from tags_of afresh fitting line_of
    text_of answer_to dumped printed program
itself_text = refl

line_3 : refused_line 3 ≡ ascii "refused 3\n"
unfolding refused_line decimal digits
line_3 = refl

pub samples : Samples
samples = record {
  of_node = λ work text ew et. (runs node work text ew et).described node_bytes node_opens ∙ ap (λ (l : List BtfType). program (listed 8 false l)) described_samples.node_types_lem ∙ node_text;
  of_itself = λ work text ew et. (runs itself work text ew et).described itself_bytes itself_opens ∙ ap (λ (l : List BtfType). program (listed 8 false l)) itself_types ∙ itself_text;
  of_nothing = λ work text ew et. (runs [] work text ew et).not_opened 2 nothing_opens ∙ line_3;
}

-- The samples hold of the definitions.
use mathlib.Core.Path.{◌≡◌, refl}
use Rattle.spec_bytes.specs.words.Words.{one_more}
use Rattle.spec_bytes.specs.text.Text.{join, bytes, pfx}
use Rattle.spec_bytes.specs.text.Decimal.{digits, decimal}
use Rattle.spec_c_dumper.specs.rules.Order.{bind, each, meet, push_if, enter, alias, fresh, visit, order}
use Rattle.spec_c_dumper.specs.rules.Machine.{obind, eeach, once, mention, again, close, leaf, within, begin, allowed, look, emit, shut, emitted, ordered, gate, single, onward, from, every}
use Rattle.spec_c_dumper.specs.rules.Writer.{ask_then, checked, said_text, said_names, after, next, put, stop, given, ◌⨾◌}
use Rattle.spec_c_dumper.specs.rules.Types.{is_empty}
use Rattle.spec_c_dumper.specs.rules.Layout.{larger, smaller, octets, size_of, get_size_of, align_members, align_of, get_align_of, off_align, members_packed, is_struct_packed, chip_away_bits, pad_of, pads_of, gap_pads, pads_before, bit_padding, end_of}
use Rattle.spec_c_dumper.specs.rules.Placing.{body_packed, tail_pads}
use Rattle.spec_c_dumper.specs.rules.Names.{spelled, resolving, resolve_type_name, resolve_name, same_bytes, holds, holders, with_one, type_version, value_version, starts_with, contains, builtin, escaped_byte, escaped}
use Rattle.spec_c_dumper.specs.rules.Decl.{deeper, sep_name, keyword, attribute, decl_tag, decl_tags, qualifier, enum_value, enum64_value, chain_on, chain_of, mods, no_mods, shown_params, unit_word, pads, last_newline, own_line, tail_text, bit_size_of, emit_composite_fwd, emit_fwd_def, enum_word, emit_values, enum_body, emit_enum_def, emit_name, brackets, parens, emit_param, emit_params, base_word, emit_array, emit_proto, param_list, chain_loop, emit_members, composite_head, composite_end, composite_body, composite_def, emit_typedef_def, emit_type_decl, emit_type_chain, emit_composite_def}
use Rattle.spec_c_dumper.specs.rules.Emit.{definition, shown, forward}
use Rattle.spec_c_dumper.specs.rules.Listed.{tags_id, tags_from}
use Rattle.spec_c_dumper.specs.needs.Lists.{tags_of, afresh}
use Rattle.spec_c_dumper.specs.needs.Session.{names_at_stop, fitting, line_of, text_of, answer_to, dumped, printed, program}
use Rattle.spec_c_dumper.specs.rules.Samples.{all_given, all_wanted}
use Rattle.proof_two_headers.specs.Shared.{taking, passing, type_shared, value_shared}
use Rattle.proof_two_headers.specs.Calls.{reserved, ledger_short, open_number, is_ready, same_lengths, is_current, opening, asking, called, calls}
use Rattle.proof_two_headers.specs.Samples.{numbers_from, shared_samples}

pub samples_shared : all_given shared_samples ≡ all_wanted shared_samples
unfolding one_more join bytes pfx digits decimal bind each meet push_if enter alias fresh visit order obind eeach once mention again close leaf within begin
    allowed look emit shut emitted ordered gate single onward from every ask_then checked said_text said_names after next put stop given ◌⨾◌ is_empty
    larger smaller octets size_of get_size_of align_members align_of get_align_of off_align members_packed is_struct_packed chip_away_bits pad_of pads_of
    gap_pads pads_before bit_padding end_of spelled resolving resolve_type_name resolve_name same_bytes holds holders with_one type_version value_version starts_with
    contains builtin escaped_byte escaped deeper sep_name keyword attribute decl_tag decl_tags qualifier enum_value enum64_value chain_on chain_of mods
    no_mods shown_params unit_word pads last_newline own_line tail_text body_packed tail_pads bit_size_of emit_composite_fwd emit_fwd_def enum_word emit_values enum_body emit_enum_def emit_name brackets
    parens emit_param emit_params base_word emit_array emit_proto param_list chain_loop emit_members composite_head composite_end composite_body
    composite_def emit_typedef_def emit_type_decl emit_type_chain emit_composite_def definition shown forward tags_id tags_from tags_of afresh names_at_stop fitting line_of
    text_of answer_to dumped printed program taking passing type_shared value_shared reserved ledger_short open_number is_ready same_lengths is_current opening asking called calls numbers_from
samples_shared = refl

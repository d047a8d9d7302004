-- The samples hold of the reader.
use mathlib.Core.Path.{◌≡◌, refl}
use mathlib.Core.List.{[], ◌∷◌}
use Rattle.spec_bytes.specs.text.Text.{ascii}
use Rattle.spec_c_dumper.specs.rules.Types.{is_empty}
use Rattle.spec_c_dumper.specs.rules.Names.{same_bytes, naming}
use Rattle.spec_c_dumper.specs.rules.Writer.{held_by, put}
use Rattle.spec_c_dumper.specs.rules.Samples.{declarators, unnamed}
use Rattle.spec_c_dumper.specs.rules.Decl.{qualifier, star, array as count, chain_of, chain_on, base_word}
use Rattle.proof_declaration_reader.specs.Written.{spaced, words_behind}
use Rattle.proof_declaration_reader.specs.Drawn.{Draws}
use Rattle.session_declaration_reader.specs.grammar.Chain.{named, pointer, array, layer_entries, param_entries, entries}
use Rattle.session_declaration_reader.specs.tokens.Tokens.{is_digit, is_letter, is_word_byte, in_run, all_of, identifier, value_of, is_count, kind_of, word_token, run_token, lone, ended, tokens, rest}
use Rattle.session_declaration_reader.specs.bases.Bases.{is_qualifier_among, distinct, begins, begins_word, bracketed, qual_run, after_quals, ends_name, word_run, after_words, no_tags, single, is_base, words_of, void_before}
use Rattle.session_declaration_reader.specs.grammar.Grammar.{and_then, read_base, wanted, wanted_name, wanted_count, declarator, suffixes, params, param_list, param_end}
use Rattle.session_declaration_reader.specs.reader.Reading.{read_tokens, within_most, whole, read_with, read}
use Rattle.proof_declaration_reader.specs.Samples.{samples, all_given, all_wanted}

pub samples_hold : all_given samples ≡ all_wanted samples
unfolding is_empty same_bytes qualifier layer_entries param_entries entries is_digit is_letter is_word_byte in_run all_of identifier value_of is_count kind_of word_token
    run_token lone ended tokens is_qualifier_among distinct and_then begins begins_word rest bracketed qual_run after_quals ends_name word_run after_words no_tags
    single is_base words_of read_base wanted wanted_name wanted_count void_before declarator suffixes params param_list param_end
    read_tokens within_most whole read_with read
samples_hold = refl

-- Types of a table have chains: `int *a[3]` and `int (*p)[3]` of document 01's samples.
pub drawn_array : Draws naming declarators 3 (record { quals = []; words = ascii "int" ∷ []; layers = pointer [] (array 3 named) }) unnamed unnamed
unfolding chain_of chain_on base_word put spaced words_behind
drawn_array =
    record {
      base_id = 1;
      behind = star ∷ count 3 ∷ [];
      between = unnamed;
      chains = refl;
      prints = λ decl chain def fname lvl. (held_by unnamed (ascii "int"), refl);
      layers_are = (count 3 ∷ [], refl, ([], refl, (refl, refl)));
    }

pub drawn_pointer : Draws naming declarators 5 (record { quals = []; words = ascii "int" ∷ []; layers = array 3 (pointer [] named) }) unnamed unnamed
unfolding chain_of chain_on base_word put spaced words_behind
drawn_pointer =
    record {
      base_id = 1;
      behind = count 3 ∷ star ∷ [];
      between = unnamed;
      chains = refl;
      prints = λ decl chain def fname lvl. (held_by unnamed (ascii "int"), refl);
      layers_are = (star ∷ [], refl, ([], refl, (refl, refl)));
    }

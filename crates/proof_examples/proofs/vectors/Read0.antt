-- Written by tools/vectors.py. By computation, the bytes of the sections of specs/Programs0 are read as their types.
use mathlib.Core.Path.{◌≡◌, refl}
use Rattle.spec_bytes.specs.words.Words.{word_at, word_at_big, word_in}
use Rattle.spec_linux_btf.specs.Section.{is_big_endian, word_of}
use Rattle.spec_type_table.specs.Names.{up_to_zero, name_at}
use Rattle.spec_type_table.specs.Records.{section_word, record_at, member_of, extra_of}
use Rattle.spec_type_table.specs.Table.{from, param_of, value_of, value64_of, type_of}
use Rattle.proof_examples.specs.vectors.Reading.{pairs, types_from, types_of, all_read, all_types}
use Rattle.proof_examples.specs.vectors.Programs0.{programs0}

pub programs0_read : all_read programs0 ≡ all_types programs0
unfolding is_big_endian word_of word_in word_at_big word_at up_to_zero name_at section_word record_at member_of extra_of from param_of value_of value64_of type_of pairs types_from types_of
programs0_read = refl

-- The samples' tables, by computing. Assumes nothing.
use mathlib.Core.Path.{refl}
use Rattle.spec_bytes.specs.words.Words.{word_at, word_in}
use Rattle.spec_linux_btf.specs.Reading.{word, kind, decode, places, decode_all}
use Rattle.spec_linux_btf.specs.Section.{is_big_endian, hdr_len_of, type_off_of, type_len_of, str_off_of, type_area}
use Rattle.spec_c_dumper.specs.rules.Listed.{tags_id, tags_from}
use Rattle.spec_type_table.specs.Documented.{kept}
use Rattle.spec_type_table.specs.Strings.{up_to_zero, name_at}
use Rattle.spec_opening.specs.Samples.{Samples}

pub samples : Samples
unfolding kept type_area is_big_endian hdr_len_of type_off_of type_len_of str_off_of word kind decode_all decode places name_at up_to_zero word_in word_at tags_id tags_from
samples = record { node_types_lem = refl; members = refl; target = refl; pointer = refl; union = refl; tags = refl }

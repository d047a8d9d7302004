use Rattle.spec_type_table.specs.Records.{section_word}
use Rattle.btf_type_table.proofs.table.Table.word.Goals as goal

pub returns : goal.returns
unfolding section_word
returns c = c.word_in.ensures

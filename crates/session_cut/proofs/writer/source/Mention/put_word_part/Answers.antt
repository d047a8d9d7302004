use Rattle.session_cut.proofs.writer.Parts.{word_of_records, word_of_names}
use Rattle.session_cut.proofs.writer.source.Mention.put_word_part.Goals as goal

pub returns-in-Records : goal.returns-in-Records
returns-in-Records c = word_of_records _ _ _ _ _ _ _ _ _ _ _ c.new_word.ensures _ _ c.put_word.ensures c.in-Records.is

pub returns-in-Names : goal.returns-in-Names
returns-in-Names c = word_of_names _ _ _ _ _ _ _ _ _ _ _ _ c.put_name.ensures c.in-Names.is

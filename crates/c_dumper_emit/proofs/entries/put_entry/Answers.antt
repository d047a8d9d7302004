use Rattle.c_dumper_emit.proofs.entries.Laws as laws
use Rattle.c_dumper_emit.proofs.entries.put_entry.Goals as goal

pub returns : goal.returns
returns c = laws.put_is _ _ _ _ _ _ _ _ c.put_word.ensures c.put_word-2.ensures c.put_word-3.ensures

use Rattle.c_dumper_emit.proofs.entries.Laws as laws
use Rattle.c_dumper_emit.proofs.entries.note.Goals as goal

pub returns-then-list-p : goal.returns-then-list-p
returns-then-list-p c = λ n t w. laws.note_full n _ t w _ _ _ c.if-list-p.true

pub returns : goal.returns
returns c = λ n t w. laws.note_more n _ t w _ _ _ c.if-list-p.false c.put_entry.ensures

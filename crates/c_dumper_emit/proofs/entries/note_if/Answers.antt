use Rattle.c_dumper_emit.proofs.entries.Laws as laws
use Rattle.c_dumper_emit.proofs.entries.note_if.Goals as goal

pub returns-then-shown : goal.returns-then-shown
returns-then-shown c = λ n t w. laws.noteif_yes n _ t w _ _ _ _ _ c.if-shown.true (c.note.ensures n t w)

pub returns : goal.returns
returns c = λ n t w. laws.noteif_no n _ t w _ _ _ _ c.if-shown.false

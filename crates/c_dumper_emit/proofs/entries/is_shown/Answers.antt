use Rattle.c_dumper_emit.proofs.entries.Laws as laws
use Rattle.c_dumper_emit.proofs.entries.is_shown.Goals as goal

pub returns-then-is_named : goal.returns-then-is_named
returns-then-is_named c = laws.shown_named _ _ _ _ c.is_named.ensures c.if-is_named.true _ c.is_builtin.ensures

pub returns : goal.returns
returns c = laws.shown_nameless _ _ _ _ c.is_named.ensures c.if-is_named.false

use Rattle.c_dumper_padding.proofs.extents.Laws.{reached_struct, reached_union}
use Rattle.c_dumper_padding.proofs.extents.reached.Goals as goal

pub returns-then-body : goal.returns-then-body
returns-then-body c = reached_struct _ _ _ c.if-body.true

pub returns : goal.returns
returns c = reached_union _ _ _ c.if-body.false _ c.max.ensures

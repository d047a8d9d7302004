use Rattle.c_dumper_padding.proofs.extents.Laws.{start_struct, start_union}
use Rattle.c_dumper_padding.proofs.extents.start_fits.Goals as goal

pub returns-then-body : goal.returns-then-body
returns-then-body c = start_struct _ _ _ c.if-body.true

pub returns : goal.returns
returns c = start_union _ _ _ c.if-body.false

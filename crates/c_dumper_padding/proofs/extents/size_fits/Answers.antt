use Rattle.c_dumper_padding.proofs.extents.Laws.{size_struct, size_union}
use Rattle.c_dumper_padding.proofs.extents.size_fits.Goals as goal

pub returns-then-body : goal.returns-then-body
returns-then-body c = size_struct _ _ _ _ c.if-body.true

pub returns : goal.returns
returns c = size_union _ _ _ _ c.if-body.false _ c.round_up.ensures

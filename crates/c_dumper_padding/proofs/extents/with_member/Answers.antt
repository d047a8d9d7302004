use Rattle.c_dumper_padding.proofs.extents.Laws.{with_misfit, with_fit}
use Rattle.c_dumper_padding.proofs.extents.with_member.Goals as goal

pub returns-then-x : goal.returns-then-x
returns-then-x c = with_fit _ _ _ _ _ _ _ _ c.reached.ensures c.if-x.true _ c.member_fits.ensures

pub returns-else-x : goal.returns-else-x
returns-else-x c = with_misfit _ _ _ _ _ _ _ _ c.reached.ensures c.if-x.false

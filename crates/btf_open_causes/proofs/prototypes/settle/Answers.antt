use Rattle.btf_open_causes.proofs.prototypes.Cells.{settle_more}
use Rattle.btf_open_causes.proofs.prototypes.settle.Goals as goal

pub loop-preserved : goal.loop-preserved
loop-preserved c = settle_more _ _ _ _ _ _ _ c.loop.invariant c.loop-test.true _ c.next-z.ensures

use Rattle.std.proofs.Common.{arith}
use Rattle.btf_open_causes.specs.references.Bounds.{count_fits}
use Rattle.btf_open_causes.proofs.loops.Walks.{scan_yes, scan_no}
use Rattle.btf_open_causes.proofs.loops.scan.Goals as goal

pub walk-requires : goal.walk-requires
walk-requires c = (c.loop-x.invariant.0, omega (arith, count_fits c.args.i.now.table.head))

pub returns-then-walk : goal.returns-then-walk
returns-then-walk c = scan_yes _ _ _ _ _ c.walk.ensures c.if-walk.true

pub returns : goal.returns
returns c = scan_no _ (λ v h. c.loop-x.invariant.1 v (omega arith))

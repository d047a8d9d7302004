use Rattle.std.proofs.Common.{arith}
use Rattle.btf_open_causes.proofs.prototypes.Held.{all_yes, all_no}
use Rattle.btf_open_causes.proofs.prototypes.all.Goals as goal

pub returns-then-asks_of : goal.returns-then-asks_of
returns-then-asks_of c = all_yes _ _ _ _ _ c.count-x-end.ensures _ _ c.loop-x-test.true c.asks_of.ensures c.if-asks_of.true

pub returns : goal.returns
returns c = all_no _ _ _ _ c.loop-x.x c.count-x-end.ensures (omega arith) c.loop-x.invariant.1

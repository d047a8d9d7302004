use Rattle.btf_open_names.proofs.numbers.Lists.{walk_start, walk_turn, walk_end}
use native.Mathlib.Omega.{arith}
use Rattle.btf_open_names.proofs.numbers.Taken.count_below.Goals as goal

pub loop-last-init : goal.loop-last-init
loop-last-init c = (omega arith, omega arith, walk_start _ _ _ _ _ c.get-x.ensures)

pub loop-last-preserved : goal.loop-last-preserved
loop-last-preserved c = (omega arith, omega arith, walk_turn _ _ _ _ _ _ _ _ _ _ c.loop-last.invariant.2 c.loop-last-test.true c.loop-last.invariant.0 c.get.ensures c.add_if-c.ensures c.get-x-in-loop-last.ensures)

pub returns : goal.returns
returns c = walk_end _ _ _ _ _ _ _ c.loop-last.invariant.2 c.loop-last-test.false

use Rattle.session_cut_marks.proofs.tags.Laws.{none_numbered, more_numbered, all_numbered, number_up}
use native.Mathlib.Omega.{arith}
use Rattle.session_cut_marks.proofs.tags.number.Goals as goal

pub loop-x-init : goal.loop-x-init
loop-x-init c = (none_numbered _, omega arith)

pub loop-x-preserved : goal.loop-x-preserved
loop-x-preserved c = (more_numbered _ _ _ _ _ _ c.loop-x.invariant.0 c.number_one-c.ensures, omega (arith, c.loop-x.invariant.1, number_up _ _ _ _ _ c.number_one-c.ensures))

pub returns : goal.returns
returns c = all_numbered _ _ _ _ c.loop-x.auto.x-end c.loop-x-test.false c.loop-x.invariant.0

use Rattle.btf_open_names.proofs.numbers.Numbers.{nears_first, nears_next, nears_end}
use native.Mathlib.Omega.{arith}
use Rattle.btf_open_names.proofs.numbers.Taken.number_over.Goals as goal

pub loop-n-init : goal.loop-n-init
loop-n-init c = (omega arith, omega arith, c.step-m.ensures, nears_first _ _ (omega arith))

pub loop-n-preserved : goal.loop-n-preserved
loop-n-preserved c = (omega arith, omega arith, c.step-m-in-loop-n.ensures, nears_next _ _ _ _ c.loop-n.invariant.2 c.loop-n.invariant.3)

pub returns : goal.returns
returns c = nears_end _ _ _ _ c.loop-n.invariant.2 c.loop-n-test.false c.loop-n.invariant.3

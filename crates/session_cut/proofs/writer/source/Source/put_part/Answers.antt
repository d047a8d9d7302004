use native.Mathlib.Omega.{arith}
use Rattle.session_cut.proofs.writer.Parts.{no_part, more_part, part_stop}
use Rattle.session_cut.proofs.writer.source.Source.put_part.Goals as goal

pub loop-x-init : goal.loop-x-init
loop-x-init c = no_part _ _ _ _ _ _ _ _

pub loop-x-preserved : goal.loop-x-preserved
loop-x-preserved c = more_part _ _ _ _ _ _ _ _ _ _ _ _ _ c.loop-x.invariant (c.in_ok-p.ensures (omega (arith, c.count-x-end.ensures, c.loop-x-test.true)))

pub returns-in_err-p : goal.returns-in_err-p
returns-in_err-p c = part_stop _ _ _ _ _ _ _ _ _ _ _ _ c.count-x-end.ensures c.loop-x-test.true (more_part _ _ _ _ _ _ _ _ _ _ _ _ _ c.loop-x.invariant (c.in_err-p.ensures (omega (arith, c.count-x-end.ensures, c.loop-x-test.true)))) _ c.from_residual.ensures.1

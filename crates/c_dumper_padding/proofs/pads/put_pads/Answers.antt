use Rattle.c_dumper_padding.proofs.pads.Laws.{goes_start, goes_stop}
use Rattle.c_dumper_padding.proofs.pads.Placing.{pads_end, pads_fit, pads_some, pads_more}
use mathlib.Core.Path.{refl}
use native.Mathlib.Omega.{arith}
use Rattle.std.proofs.Common.{rules}
use Rattle.c_dumper_padding.proofs.pads.put_pads.Goals as goal

pub loop-s-init : goal.loop-s-init
loop-s-init c = (refl, omega arith, goes_start _ _ _)

pub returns-in_err-p : goal.returns-in_err-p
returns-in_err-p c = goes_stop _ _ _ _ _ _ _ (pads_more _ _ _ _ _ _ _ _ _ _ c.loop-s.invariant.2 _ c.loop-s-test.true c.next_pad-pad.ensures _ _ c.in_err-p.ensures) c.from_residual.ensures.1

pub overflow_add-s : goal.overflow_add-s
overflow_add-s c = omega (arith, pads_fit _ _ _ _ _ _ _ _ _ _ c.loop-s.invariant.2 _ c.loop-s-test.true c.next_pad-pad.ensures, c.loop-s.invariant.1)

pub loop-s-smaller : goal.loop-s-smaller
loop-s-smaller c = pads_some _ _ _ _ _ _ _ _ _ _ c.loop-s.invariant.2 _ c.loop-s-test.true c.next_pad-pad.ensures

pub loop-s-preserved : goal.loop-s-preserved
loop-s-preserved c = (search rules, c.loop-s.invariant.1, pads_more _ _ _ _ _ _ _ _ _ _ c.loop-s.invariant.2 _ c.loop-s-test.true c.next_pad-pad.ensures _ _ c.in_ok-p.ensures)

pub returns : goal.returns
returns c = pads_end _ _ _ _ _ _ _ _ _ _ c.loop-s.invariant.2 c.loop-s-test.false

use mathlib.Core.Path.{◌∙◌, ap}
use Rattle.std.specs.Prelude.{Ok}
use Rattle.std.proofs.lemmas.Result.{err_from_is_err_and}
use Rattle.session_field_at_bit.proofs.step.Laws as laws
use Rattle.session_field_at_bit.proofs.step.find_member.Goals as goal

pub loop-k-init : goal.loop-k-init
loop-k-init c = laws.tried_start _ _ _ _ _

pub returns-in_err-step : goal.returns-in_err-step
returns-in_err-step c =
    let p = err_from_is_err_and c.from_residual.result c.from_residual.ensures.1 in
    rw (p.1, p.2) (laws.tried_refused _ _ _ _ _ _ _ _ c.vlen_of-k-end.ensures c.loop-k-test.true c.load_member-m.ensures _ c.try_member.ensures _ c.loop-k.invariant _ c.in_err-step.was)

pub returns-in-Some : goal.returns-in-Some
returns-in-Some c = laws.tried_step _ _ _ _ _ _ _ _ c.vlen_of-k-end.ensures c.loop-k-test.true c.load_member-m.ensures _ c.try_member.ensures _ c.loop-k.invariant _ (c.in_ok-step.was ∙ ap Ok c.in-Some.is)

pub loop-k-preserved : goal.loop-k-preserved
loop-k-preserved c = laws.tried_more _ _ _ _ _ _ _ _ c.vlen_of-k-end.ensures c.loop-k-test.true c.load_member-m.ensures _ c.try_member.ensures _ c.loop-k.invariant (c.in_ok-step.was ∙ ap Ok c.in_default.is)

pub returns : goal.returns
returns c = laws.tried_end _ _ _ _ _ _ _ _ c.loop-k.invariant c.vlen_of-k-end.ensures c.loop-k-test.false

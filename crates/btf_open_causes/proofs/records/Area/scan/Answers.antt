use Rattle.std.proofs.Common.{arith, rules, refl, ap, ◌∙◌, set}
use Rattle.btf_open_causes.specs.records.Pass.{scan_out}
use Rattle.btf_open_causes.proofs.records.Pass.{turning_none, turning_more, turn_bad, turn_end, out_unsound, out_found, enums_few}
use Rattle.btf_open_causes.proofs.records.Area.scan.Goals as goal

pub loop-types-init : goal.loop-types-init
loop-types-init c = (turning_none _ _ _ _ _ c.requires.0, refl)

pub returns-then-self-at : goal.returns-then-self-at
returns-then-self-at c = out_found _ _ _ ∙ turn_end _ _ _ _ _ _ _ _ _ c.loop-types.invariant.0 (omega (arith, c.loop-types-test.true)) c.if-self-at.true

pub returns-in_err-at : goal.returns-in_err-at
returns-in_err-at c =
    ap (λ o. scan_out o c.store.new.l) c.from_residual.ensures ∙ out_unsound _
    ∙ turn_bad _ _ _ _ _ _ _ _ _ c.loop-types.invariant.0 (omega (arith, c.loop-types-test.true)) c.if-self-at.false c.in_err-at.ensures

pub overflow_add-enumerators : goal.overflow_add-enumerators
overflow_add-enumerators c =
    let m = c.loop-types.invariant.0.come (omega (arith, c.loop-types-test.true)) in
    omega (arith, m.small, m.inside, c.requires.1, enums_few _ _ c.enumerators_of-enumerators.ensures)

pub loop-types-preserved : goal.loop-types-preserved
loop-types-preserved c = (turning_more _ _ _ _ _ _ _ _ _ c.loop-types.invariant.0 (omega (arith, c.loop-types-test.true)) c.if-self-at.false _ c.in_ok-at.ensures c.requires.1 _ _ c.word-info.ensures c.kind_of.ensures _ (c.store.ensures ∙ ap (set _ _) c.new.ensures) _ c.enumerators_of-enumerators.ensures, search rules)

pub returns : goal.returns
returns c = out_unsound _ ∙ c.loop-types.invariant.0.many (omega (arith, c.loop-types-test.false))

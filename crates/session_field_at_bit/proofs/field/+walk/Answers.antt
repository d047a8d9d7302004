use mathlib.Core.Path.{◌∙◌, ap}
use Rattle.std.specs.Prelude.{Ok, Some}
use Rattle.std.proofs.lemmas.Result.{err_from_is_err_and}
use Rattle.session_field_at_bit.proofs.field.Laws as laws
use Rattle.session_field_at_bit.proofs.field.+walk.Goals as goal

pub returns-in_err-step : goal.returns-in_err-step
returns-in_err-step t c =
    let p = err_from_is_err_and c.from_residual.result c.from_residual.ensures.1 in
    rw (p.1, p.2) (laws.walk_no _ _ _ _ _ _ _ _ c.behind-shape.ensures _ c.next_step.ensures _ c.in_err-step.was)

pub returns-in_default : goal.returns-in_default
returns-in_default t c = laws.walk_stay _ _ _ _ _ _ _ _ c.behind-shape.ensures _ c.next_step.ensures (c.in_ok-step.was ∙ ap Ok c.in_default.is)

pub returns-then-n-eq-MOST_CALLS : goal.returns-then-n-eq-MOST_CALLS
returns-then-n-eq-MOST_CALLS t c = laws.walk_full _ _ _ _ _ _ _ _ c.behind-shape.ensures _ c.next_step.ensures c.if-n-eq-MOST_CALLS.true _ (c.in_ok-step.was ∙ ap Ok c.in-Some.is)

pub returns-in-Field : goal.returns-in-Field
returns-in-Field t c = laws.walk_field _ _ _ _ _ _ _ _ c.behind-shape.ensures _ c.next_step.ensures c.requires c.if-n-eq-MOST_CALLS.false c.in-Field.k (c.in_ok-step.was ∙ ap Ok (c.in-Some.is ∙ ap Some c.in-Field.is)) _ c.put_entry.ensures

pub returns-in_err-len-in-Enter : goal.returns-in_err-len-in-Enter
returns-in_err-len-in-Enter t c =
    let p = err_from_is_err_and c.from_residual-in_err-len-in-Enter.result c.from_residual-in_err-len-in-Enter.ensures.1 in
    rw (p.1, p.2) (laws.walk_refused _ _ _ _ _ _ _ _ c.behind-shape.ensures _ c.next_step.ensures c.requires c.if-n-eq-MOST_CALLS.false c.in-Enter.entry c.in-Enter.type_id c.in-Enter.bit (c.in_ok-step.was ∙ ap Ok (c.in-Some.is ∙ ap Some c.in-Enter.is)) _ _ c.walk.auto.path c.walk.ensures _ c.in_err-len-in-Enter.was)

pub returns-in_ok-len-in-Enter : goal.returns-in_ok-len-in-Enter
returns-in_ok-len-in-Enter t c =
    laws.walk_enter _ _ _ _ _ _ _ _ c.behind-shape.ensures _ c.next_step.ensures c.requires c.if-n-eq-MOST_CALLS.false c.in-Enter.entry c.in-Enter.type_id c.in-Enter.bit (c.in_ok-step.was ∙ ap Ok (c.in-Some.is ∙ ap Some c.in-Enter.is)) _ _ c.walk.auto.path c.walk.ensures _ _ c.in_ok-len-in-Enter.was c.put_entry-in-Enter.ensures

use Rattle.std.proofs.lemmas.Result.{err_from_is_err_and}
use mathlib.Core.Bool.{not}
use Prim.Native.Nat.{ℕ, ◌/◌}
use mathlib.Core.Path.{ap}
use Rattle.session_field_at_bit.proofs.field.Laws as laws
use Rattle.session_field_at_bit.proofs.field.find_field.Goals as goal

pub returns-then-not-is_composite : goal.returns-then-not-is_composite
returns-then-not-is_composite c = laws.field_not _ _ _ _ _ _ _ c.type_by_id.ensures _ c.is_composite.ensures (ap not c.if-not-is_composite.true)

pub returns : goal.returns
returns c = laws.field_got _ _ _ _ _ _ _ c.type_by_id.ensures _ c.is_composite.ensures (ap not c.if-not-is_composite.false) _ _ c.walk.ensures _ _ _ c.in_ok-len.was (ap (λ (m : ℕ). m / 4) c.walk.auto.path) c.answer_to.ensures

pub returns-in_err-len : goal.returns-in_err-len
returns-in_err-len c =
    let p = err_from_is_err_and c.from_residual.result c.from_residual.ensures.1 in
    rw (p.1, p.2) (laws.field_no _ _ _ _ _ _ _ c.type_by_id.ensures _ c.is_composite.ensures (ap not c.if-not-is_composite.false) _ _ c.walk.ensures _ c.in_err-len.was)

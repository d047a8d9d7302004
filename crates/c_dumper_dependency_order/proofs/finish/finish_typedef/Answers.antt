use Rattle.c_dumper_dependency_order.proofs.finish.finish_typedef.Goals.{else-step-via-then-step+else-not-o, else-step-via-else-step}
use mathlib.Core.Path.{refl}
use Rattle.std.proofs.Math.Bool.{or-true}
use Rattle.std.proofs.lemmas.Bool.{not-true, not-false}
use Rattle.c_dumper_dependency_order.proofs.order_type.Laws as laws
use Rattle.c_dumper_dependency_order.proofs.finish.finish_typedef.Goals as goal

pub returns-then-not-o : goal.returns-then-not-o
returns-then-not-o c = laws.alias_off c.args.o _ _ _ _ _ _ (rw (c.if-step.true) (not-true _ c.if-not-o.true)) c.strong.ensures

pub returns : goal.returns
returns c = laws.alias_on c.args.o _ _ _ _ _ _ _ _ _ (elim c.else-step.branch [
  | else-step-via-then-step+else-not-o w ↦ rw (not-false _ w.if-not-o.false) (or-true _)
  | else-step-via-else-step w ↦ rw (w.if-step.false) refl
]) c.is_done-was_ordered.ensures c.finish.ensures

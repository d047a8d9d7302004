use mathlib.Core.Bool.{true, false}
use mathlib.Core.Path.{refl, ◌∙◌}
use Rattle.c_dumper_dependency_order.proofs.begin.Laws as laws
use Rattle.c_dumper_dependency_order.proofs.order_type.Orderer.is_known.Goals as goal

pub returns-then-is_allowed : goal.returns-then-is_allowed
returns-then-is_allowed c = laws.known_is _ _ _ _ _ c.if-left-eq0.false _ c.count.ensures _ true c.is_ok-is_allowed.ensures.value c.if-is_allowed.true _ c.is_done.ensures

pub returns-else-is_allowed : goal.returns-else-is_allowed
returns-else-is_allowed c = c.if-is_allowed.false ∙ laws.known_is _ _ c.args.o c.args.work.now c.args.id c.if-left-eq0.false _ c.count.ensures _ false c.is_ok-is_allowed.ensures.value c.if-is_allowed.false _ refl

pub returns-then-left-eq0 : goal.returns-then-left-eq0
returns-then-left-eq0 c = laws.known_deep _ _ c.args.o _ _ c.if-left-eq0.true

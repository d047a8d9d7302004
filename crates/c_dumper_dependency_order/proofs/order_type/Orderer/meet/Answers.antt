use mathlib.Core.Path.{ap}
use mathlib.Core.Logic.{⊎_elim}
use Rattle.std.specs.Prelude.{Ok, Err}
use Rattle.c_dumper_dependency_order.proofs.begin.Laws as laws
use Rattle.c_dumper_dependency_order.proofs.order_type.Orderer.meet.Goals as goal

pub returns-then-not-has_ptr : goal.returns-then-not-has_ptr
returns-then-not-has_ptr c = laws.meet_strong _ _ _ _ _ _ _ (ap Err c.refused.ensures) c.if-not-has_ptr.true

pub returns-then-not-is_named : goal.returns-then-not-is_named
returns-then-not-is_named c = laws.meet_nameless _ _ _ _ _ _ _ c.type_by_id-t.ensures _ c.is_named.ensures _ (ap Err c.refused-then-not-is_named.ensures) c.if-not-is_named.true

pub returns-in-Struct : goal.returns-in-Struct
returns-in-Struct c = laws.meet_passed _ _ _ _ _ _ _ c.type_by_id-t.ensures _ c.is_named.ensures _ (ap Ok c.strong.ensures) c.if-not-has_ptr.false c.if-not-is_named.false _ c.of.ensures c.in-Struct.is

pub returns-in_default : goal.returns-in_default
returns-in_default c = laws.meet_other _ _ _ _ _ _ _ c.type_by_id-t.ensures _ c.is_named.ensures _ (ap Err c.refused-in_default.ensures) _ c.of.ensures (⊎_elim c.in_default.not-Struct c.in_default.not-Union)

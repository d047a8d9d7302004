use mathlib.Core.Path.{refl, ap}
use Rattle.std.specs.Prelude.{Err}
use Rattle.c_dumper_dependency_order.proofs.begin.Laws as laws
use Rattle.c_dumper_dependency_order.proofs.order_type.Orderer.count_call.Goals as goal

pub returns-in-Ok : goal.returns-in-Ok
returns-in-Ok c = laws.open_by _ _ _ _ c.count.ensures c.in-Ok.is _ refl

pub returns-in-Err : goal.returns-in-Err
returns-in-Err c = laws.open_by _ _ _ _ c.count.ensures c.in-Err.is _ (ap Err c.refused.ensures)

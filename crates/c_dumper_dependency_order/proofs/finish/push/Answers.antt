use mathlib.Core.Path.{◌∙◌}
use native.Mathlib.Omega.{arith}
use Rattle.c_dumper_dependency_order.proofs.finish.Laws.{saturated}
use Rattle.c_dumper_dependency_order.proofs.order_type.Laws as laws
use Rattle.c_dumper_dependency_order.proofs.finish.push.Goals as goal

pub returns : goal.returns
returns c = laws.pushed _ _ _ _ _ _ _ _ c.note.ensures c.set_listed.ensures (c.saturating_add.ensures ∙ saturated _ (omega arith))

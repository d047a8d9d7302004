use mathlib.Core.Path.{sym}
use native.Mathlib.Omega.{arith}
use Rattle.c_dumper_dependency_order.proofs.order_state.Laws.{is_done_lem, is_busy, is_new}
use Rattle.c_dumper_dependency_order.proofs.order_state.MarkFromU32.from.Goals as goal

pub returns-in-2 : goal.returns-in-2
returns-in-2 c = sym (is_done_lem _ c.in-2.is)

pub returns-in-1 : goal.returns-in-1
returns-in-1 c = sym (is_busy _ c.in-1.is)

pub returns-in_default : goal.returns-in_default
returns-in_default c = sym (is_new _ (λ e. omega arith) (λ e. omega arith))

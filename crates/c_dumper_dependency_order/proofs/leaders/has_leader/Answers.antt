use native.Mathlib.Omega.{arith}
use Rattle.c_dumper_dependency_order.proofs.leaders.Laws as laws
use Rattle.c_dumper_dependency_order.proofs.leaders.has_leader.Goals as goal

pub returns : goal.returns
returns c = laws.has_leader_is _ _ _ _ (omega arith) c.peek.ensures

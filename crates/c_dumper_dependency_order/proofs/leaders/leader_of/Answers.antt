use mathlib.Core.Path.{sym, ◌∙◌}
use native.Mathlib.Omega.{arith}
use Rattle.c_dumper_dependency_order.proofs.leaders.Laws as laws
use Rattle.c_dumper_dependency_order.proofs.leaders.leader_of.Goals as goal

pub returns-then-has_leader : goal.returns-then-has_leader
returns-then-has_leader c =
    sym (laws.word_lead _ (omega arith))
    ∙ laws.leader_there _ _ _ _ _ _ c.has_leader.ensures c.if-has_leader.true (laws.word_of _ _ _ c.peek.ensures)

pub returns : goal.returns
returns c = laws.leader_none _ _ _ _ _ c.has_leader.ensures c.if-has_leader.false

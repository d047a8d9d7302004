use Rattle.c_dumper_dependency_order.proofs.leaders.Laws as laws
use Rattle.c_dumper_dependency_order.proofs.leaders.Way.led_by.Goals as goal

pub returns-then-self-id : goal.returns-then-self-id
returns-then-self-id c = laws.leader_same _ _ c.if-self-id.true

pub returns-else-self-id : goal.returns-else-self-id
returns-else-self-id c = laws.leader_other _ _ c.if-self-id.false

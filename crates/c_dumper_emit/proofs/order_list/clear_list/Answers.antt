use Rattle.spec_session.proofs.emission.Emptied as laws
use Rattle.c_dumper_emit.proofs.order_list.clear_list.Goals as goal

pub loop-k-init : goal.loop-k-init
loop-k-init c = laws.emptied_none _

pub loop-k-preserved : goal.loop-k-preserved
loop-k-preserved c = laws.emptied_more _ _ _ _ c.loop-k.invariant c.set_listed.ensures

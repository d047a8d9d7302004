use Rattle.c_dumper_dependency_order.proofs.order_type.Laws as laws
use Rattle.c_dumper_dependency_order.proofs.finish.mark_ordered.Goals as goal

pub returns : goal.returns
returns c v l = laws.finish_bare c.args.o _ l _ v _ _ _ c.set_mark.ensures c.strong.ensures

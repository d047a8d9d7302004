use Rattle.c_dumper_dependency_order.proofs.order_type.Laws as laws
use Rattle.c_dumper_dependency_order.proofs.finish.finish.Goals as goal

pub returns-then-lists : goal.returns-then-lists
returns-then-lists c = laws.finish_listed c.args.o _ _ _ _ _ _ _ _ _ _ _ c.if-lists.true c.push-p.ensures (c.mark_ordered.ensures _ _)

pub returns : goal.returns
returns c = rw (c.if-lists.false) (c.mark_ordered-2.ensures _ _)

use Rattle.c_dumper_dependency_order.proofs.order_type.Laws as laws
use Rattle.c_dumper_dependency_order.specs.begin.Start.{limit_of}
use Rattle.c_dumper_dependency_order.specs.entries.Entries.{count_of, entry_type}
use Rattle.c_dumper_dependency_order.specs.leaders.Leaders.{leader_words}
use Prim.Native.Nat.{◌+◌, ◌*◌}
use Rattle.c_dumper_dependency_order.proofs.order_type.Orderer.+order_type.Given as goal

abbrev pub decreases-order_composite : goal.decreases-order_composite
decreases-order_composite l = 5 * l.step.left + 3

abbrev pub decreases-order_type : goal.decreases-order_type
decreases-order_type l = 5 * l.step.left

abbrev pub decreases-order_entries : goal.decreases-order_entries
decreases-order_entries l = 5 * l.step.left + 2

abbrev pub decreases-order_next : goal.decreases-order_next
decreases-order_next l = 5 * l.step.left + 1

abbrev pub decreases-order_new : goal.decreases-order_new
decreases-order_new l = 5 * l.step.left + 4

abbrev pub invariant-order_entries-loop-k : goal.invariant-order_entries-loop-k
invariant-order_entries-loop-k l = laws.Rest (limit_of l.self.ceiling) l.self.table.head l.self.table.section.now l.initial.work (leader_words l.initial.leaders) l.step.left l.step.has_ptr l.step.way (entry_type l.self.table.head l.self.table.section.now l.entries) l.initial.r (count_of l.entries) l.r l.work (leader_words l.leaders) l.k

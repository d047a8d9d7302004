use Rattle.c_dumper_emit.proofs.emit_type.Listed as laws
use Rattle.c_dumper_dependency_order.specs.leaders.Leaders.{leader_words, entry_in}
use Rattle.c_dumper_emit.specs.entries.Traced.{lent_list}
use Rattle.std.specs.Prelude.{Ok}
use lib.ListN.{length}
use mathlib.Core.Path.{◌≡◌}
use Rattle.c_dumper_emit.proofs.emission.Emission.emit_ordered.Given as goal

abbrev pub invariant-loop-k : goal.invariant-loop-k
invariant-loop-k l = (length l.list ≡ length l.initial.list) × laws.Listing l.self.table.head l.self.table.section.now (lent_list l.self.request.lists l.initial.list) (entry_in l.self.request.req l.self.request.turn (leader_words l.self.leaders.now)) l.initial.work l.n l.initial.a l.initial.text l.initial.list (Ok l.a) l.text l.work l.list l.k

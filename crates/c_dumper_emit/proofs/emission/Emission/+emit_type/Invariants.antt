use Rattle.c_dumper_dependency_order.specs.leaders.Leaders.{leader_words, entry_in}
use Rattle.c_dumper_emit.specs.entries.Traced.{lent_list}
use Rattle.std.specs.Prelude.{Ok}
use lib.ListN.{length}
use mathlib.Core.Path.{◌≡◌}
use Rattle.c_dumper_dependency_order.specs.entries.Entries.{count_of, entry_type}
use Rattle.c_dumper_emit.proofs.entries.Walk as walk
use Prim.Native.Nat.{ℕ, ◌+◌, ◌*◌}
use Rattle.c_dumper_emit.proofs.emission.Emission.+emit_type.Given as goal

abbrev pub decreases-emit_composite : goal.decreases-emit_composite
decreases-emit_composite l = 4 * l.left + 2

abbrev pub decreases-emit_entries : goal.decreases-emit_entries
decreases-emit_entries l = 4 * l.left + 1

abbrev pub decreases-emit_new : goal.decreases-emit_new
decreases-emit_new l = 4 * l.left + 3

abbrev pub decreases-emit_type : goal.decreases-emit_type
decreases-emit_type l = 4 * l.left

abbrev pub invariant-emit_entries-loop-k : goal.invariant-emit_entries-loop-k
invariant-emit_entries-loop-k l = (length l.list ≡ length l.initial.list) × ((n : ℕ) → walk.Rest l.self.table.head l.self.table.section.now (lent_list l.self.request.lists l.initial.list) (entry_in l.self.request.req l.self.request.turn (leader_words l.self.leaders.now)) l.initial.work l.left l.cont (entry_type l.self.table.head l.self.table.section.now l.entries) n l.initial.a l.initial.text l.initial.list (count_of l.entries) (Ok l.a) l.text l.work l.list l.k)

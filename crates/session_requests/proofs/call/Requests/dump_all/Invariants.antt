use Prim.Native.Nat.{◌-◌}
use Rattle.std.specs.Prelude.{None}
use mathlib.Core.Path.{◌≡◌}
use mathlib.Core.List.{[]}
use lib.ListN.{length}
use Rattle.spec_c_dumper.specs.origins.Causes.{up_to, entries_in}
use Rattle.spec_session.specs.session.Turns.{visits_in}
use Rattle.c_dumper_dependency_order.specs.leaders.Leaders.{leader_words}
use Rattle.c_dumper_emit.specs.entries.Traced.{entries_of}
use Rattle.session_requests.specs.options.Requests.{Fits, Ready, requested_from_with}
use Rattle.session_requests.proofs.call.Requests.dump_all.Given as goal

abbrev pub invariant-loop-id : goal.invariant-loop-id
invariant-loop-id l = (length l.work ≡ length l.initial.work) × (length l.text ≡ length l.initial.text) × (length l.list ≡ length l.initial.list) × (l.r.of.stop ≡ None) × (l.n ≡ l.self.table.head.types) × Fits l.self.options l.r l.text l.list × (requested_from_with l.self.options (up_to (entries_in l.initial.list)) l.self.table.head l.self.table.section.now (l.self.table.head.types - 1) 1 [] l.len l.initial.work l.initial.text 0 ≡ requested_from_with l.self.options (up_to (entries_in l.initial.list)) l.self.table.head l.self.table.section.now (l.n - l.id) l.id (entries_of l.r.count l.list) l.r.of.len l.work l.text l.r.made) × (length l.leaders ≡ length l.initial.leaders) × Ready l.self.options l.id (leader_words l.leaders) × (l.r.of.visits ≡ visits_in l.work)

use Prim.Native.Nat.{◌+◌, ◌*◌, ◌-◌}
use Rattle.std.specs.Prelude.{None}
use mathlib.Core.Path.{◌≡◌}
use mathlib.Core.Bool.{true}
use lib.ListN.{length, take, drop}
use Rattle.spec_session.specs.session.Turns.{with_text}
use Rattle.spec_session.specs.calls.Lists.{ids_in, tailed}
use Rattle.spec_session.proofs.calls.Lists.{ids_from}
use Rattle.c_dumper_dependency_order.specs.leaders.Leaders.{leader_words}
use Rattle.session_requests.specs.options.Lists.{front_with, list_from_with, list_call_with}
use Rattle.session_requests.specs.options.Options.{is_listed}
use Rattle.session_requests.specs.options.Requests.{Fits, Ready}
use Rattle.session_requests.proofs.call.Requests.dump_ids.Given as goal

abbrev pub invariant-loop-k : goal.invariant-loop-k
invariant-loop-k l = (length l.work ≡ length l.initial.work) × (length l.text ≡ length l.initial.text) × (length l.list ≡ length l.initial.list) × (length l.leaders ≡ length l.initial.leaders) × Fits l.self.options l.r l.text l.list × Ready l.self.options (l.k + 1) (leader_words l.leaders) × (l.s.section_len ≡ length l.self.table.section.now) × (l.s.work_len ≡ length l.work) × (is_listed l.self.options ≡ true → tailed l.k l.r.of.len l.text ≡ l.text) × (list_call_with l.self.options l.s l.self.table.section.now l.initial.work l.initial.text (ids_in l.ids) l.initial.list ≡ front_with l.r.count (take (l.r.count * 12) l.list) (list_from_with l.self.options l.k (with_text l.s true l.r.of.len l.r.of.visits) l.self.table.section.now l.work (tailed l.k l.r.of.len l.text) (drop (l.r.count * 12) (tailed l.k (l.r.count * 12) l.list)) (ids_from l.ids l.k (l.n - l.k)) l.r.made)) × (l.r.of.stop ≡ None)

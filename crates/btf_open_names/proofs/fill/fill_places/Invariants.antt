use Rattle.btf_open_names.specs.filled_work.Left.{places_put}
use lib.ListN.{length}
use mathlib.Core.Path.{◌≡◌}
use Prim.Native.Nat.{◌≤◌, ◌-◌}
use Rattle.btf_open_names.proofs.fill.fill_places.Given as goal

abbrev pub invariant-loop-x : goal.invariant-loop-x
invariant-loop-x l = (l.work ≡ places_put l.i.start.now l.initial.work (l.x - 1)) × (l.x - 1 ≤ l.i.table.head.types - 1) × (length l.work ≡ length l.initial.work)

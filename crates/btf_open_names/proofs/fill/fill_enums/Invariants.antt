use Rattle.btf_open_names.specs.filled_work.Left.{enums_put, enums_to}
use lib.ListN.{length}
use mathlib.Core.Path.{◌≡◌}
use Prim.Native.Nat.{◌≤◌, ◌-◌, ◌*◌}
use Rattle.btf_open_names.proofs.fill.fill_enums.Given as goal

abbrev pub invariant-loop-x : goal.invariant-loop-x
invariant-loop-x l = (l.work ≡ enums_put l.i.table.head l.i.table.section.now l.i.start.now l.initial.work (l.x - 1)) × (l.first ≡ enums_to l.i.table.head l.i.table.section.now l.i.start.now (l.x - 1)) × (l.x - 1 ≤ l.i.table.head.types - 1) × (l.first ≤ 65535 * (l.x - 1)) × (length l.work ≡ length l.initial.work)

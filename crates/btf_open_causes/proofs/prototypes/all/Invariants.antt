use Rattle.btf_open_causes.specs.prototypes.Cells.{Rest}
use Rattle.btf_open_causes.specs.prototypes.Prototypes.{track_of, asker}
use mathlib.Core.Bool.{false}
use mathlib.Core.Path.{◌≡◌}
use Prim.Native.Nat.{ℕ, ◌<◌}
use Rattle.btf_open_causes.proofs.prototypes.all.Given as goal

abbrev pub invariant-loop-x : goal.invariant-loop-x
invariant-loop-x l = Rest (track_of l.i.table.head l.i.table.section.now l.i.start.now) l.cell × ((v : ℕ) → v < l.x → asker l.i.table.head l.i.table.section.now l.i.start.now v ≡ false)

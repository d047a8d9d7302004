use Rattle.btf_open_causes.specs.references.Followed.{followed_id}
use Rattle.btf_open_causes.specs.prototypes.Cells.{Rest}
use Rattle.btf_open_causes.specs.prototypes.Track.{leads_to}
use Rattle.btf_open_causes.specs.prototypes.Prototypes.{track_of}
use mathlib.Core.Bool.{false}
use mathlib.Core.Path.{◌≡◌}
use Prim.Native.Nat.{ℕ, ◌<◌}
use Rattle.btf_open_causes.proofs.prototypes.asks_of.Given as goal

abbrev pub invariant-loop-k : goal.invariant-loop-k
invariant-loop-k l = Rest (track_of l.i.table.head l.i.table.section.now l.i.start.now) l.cell × ((v : ℕ) → v < l.k → leads_to (track_of l.i.table.head l.i.table.section.now l.i.start.now) (followed_id l.i.table.head l.i.table.section.now l.i.start.now l.x v) ≡ false)

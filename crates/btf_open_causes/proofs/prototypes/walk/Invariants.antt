use Rattle.btf_open_causes.specs.prototypes.Cells.{Run, Looked, unknowns}
use Rattle.btf_open_causes.specs.prototypes.Prototypes.{track_of}
use Rattle.btf_open_causes.proofs.prototypes.walk.Given as goal

abbrev pub invariant-loop-seen : goal.invariant-loop-seen
invariant-loop-seen l = Run (track_of l.i.table.head l.i.table.section.now l.i.start.now) l.y l.cell l.z l.m × Looked (track_of l.i.table.head l.i.table.section.now l.i.start.now) l.cell l.z l.seen

abbrev pub decreases-loop-seen : goal.decreases-loop-seen
decreases-loop-seen l = unknowns l.cell

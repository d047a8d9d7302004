use Prim.Native.Nat.{◌+◌, ◌<◌}
use lib.ListN.{get_or}
use Rattle.btf_open_causes.specs.loops.Walk.{Inv, room}
use Rattle.btf_open_causes.specs.loops.Loops.{graph_of}
use Rattle.btf_open_causes.proofs.loops.walk.Given as goal

abbrev pub invariant-loop-d : goal.invariant-loop-d
invariant-loop-d l = Inv (graph_of l.i.table.head l.i.table.section.now l.i.start.now) l.st l.stack l.d × (0 < get_or l.st l.x 0)

abbrev pub decreases-loop-d : goal.decreases-loop-d
decreases-loop-d l = room l.st + room l.st + l.d

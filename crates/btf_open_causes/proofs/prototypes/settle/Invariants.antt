use Rattle.btf_open_causes.specs.prototypes.Cells.{Settle}
use Rattle.btf_open_causes.specs.prototypes.Prototypes.{track_of}
use Rattle.btf_open_causes.proofs.prototypes.settle.Given as goal

abbrev pub invariant-loop : goal.invariant-loop
invariant-loop l = Settle (track_of l.i.table.head l.i.table.section.now l.i.start.now) l.y l.m l.answer l.cell l.z l.counter

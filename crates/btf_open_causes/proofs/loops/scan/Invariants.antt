use Prim.Native.Nat.{ℕ, ◌<◌}
use Rattle.btf_open_causes.specs.loops.Loops.{graph_of}
use Rattle.btf_open_causes.specs.loops.Walk.{Inv, Safe}
use Rattle.btf_open_causes.proofs.loops.scan.Given as goal

abbrev pub invariant-loop-x : goal.invariant-loop-x
invariant-loop-x l = Inv (graph_of l.i.table.head l.i.table.section.now l.i.start.now) l.st l.stack 0 × ((v : ℕ) → v < l.x → Safe (graph_of l.i.table.head l.i.table.section.now l.i.start.now) v)

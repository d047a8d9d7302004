use Rattle.session_cut_marks.specs.marks.Marks.{weight, closed}
use Rattle.session_cut_marks.specs.marks.Marking.{heap_of, SameSlices}
use mathlib.Core.Path.{◌≡◌}
use Rattle.session_cut_marks.proofs.marks.Marking.close.Given as goal

abbrev pub invariant-loop-self : goal.invariant-loop-self
invariant-loop-self l = (closed l.index.table.head l.index.table.section.now l.index.start.now (weight (heap_of l.initial.self)) (heap_of l.initial.self) ≡ closed l.index.table.head l.index.table.section.now l.index.start.now (weight (heap_of l.self)) (heap_of l.self)) × SameSlices l.initial.self l.self

abbrev pub decreases-loop-self : goal.decreases-loop-self
decreases-loop-self l = weight (heap_of l.self)

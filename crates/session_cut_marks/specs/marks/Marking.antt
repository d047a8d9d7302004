-- Marks and stack of a value of the code.
use Rattle.std.specs.Prelude.{◌≡◌}
use Rattle.session_cut_marks.specs.declared.marks.Marking.{Marking}
use Rattle.session_cut_marks.specs.marks.Marks.{Heap, heap}

abbrev pub heap_of : Marking → Heap
heap_of m = heap m.marks.now m.stack.now m.height

-- the second value holds the slices that the first holds
abbrev pub SameSlices : Marking → Marking → Type 0
SameSlices m n = (n.marks.ghost_name ≡ m.marks.ghost_name) × (n.stack.ghost_name ≡ m.stack.ghost_name)

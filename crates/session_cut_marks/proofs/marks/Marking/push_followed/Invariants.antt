use Rattle.session_cut_marks.specs.marks.Marks.{pushed_to}
use Rattle.session_cut_marks.specs.marks.Marking.{heap_of, SameSlices}
use Rattle.btf_open_causes.specs.references.Followed.{id_at}
use Prim.Native.Nat.{◌/◌, ◌%◌}
use mathlib.Core.Path.{◌≡◌}
use Rattle.session_cut_marks.proofs.marks.Marking.push_followed.Given as goal

abbrev pub invariant-loop-k : goal.invariant-loop-k
invariant-loop-k l = (heap_of l.self ≡ pushed_to (id_at l.index.table.head l.index.table.section.now (l.e.word % 32) (l.e.word / 32)) (heap_of l.initial.self) l.k) × SameSlices l.initial.self l.self

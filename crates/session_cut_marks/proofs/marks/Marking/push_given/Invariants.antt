use Rattle.session_cut_marks.specs.marks.Marks.{pushed_to}
use Rattle.session_cut_marks.specs.marks.Marking.{heap_of, SameSlices}
use Rattle.spec_bytes.specs.words.Words.{get_word}
use mathlib.Core.Path.{◌≡◌}
use Rattle.session_cut_marks.proofs.marks.Marking.push_given.Given as goal

abbrev pub invariant-loop-id : goal.invariant-loop-id
invariant-loop-id l = (heap_of l.self ≡ pushed_to (get_word l.given) (heap_of l.initial.self) l.id-index) × SameSlices l.initial.self l.self

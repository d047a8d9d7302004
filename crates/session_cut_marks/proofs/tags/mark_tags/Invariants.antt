use Rattle.session_cut_marks.specs.tags.Tags.{tagged_to}
use mathlib.Core.Path.{◌≡◌}
use Rattle.session_cut_marks.proofs.tags.mark_tags.Given as goal

abbrev pub invariant-loop-x : goal.invariant-loop-x
invariant-loop-x l = (l.marks ≡ tagged_to l.index.table.head l.index.table.section.now l.index.start.now l.initial.marks l.x)

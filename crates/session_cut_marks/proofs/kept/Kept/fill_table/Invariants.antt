use Rattle.session_cut_marks.specs.kept.AtKept.{at_kept}
use Rattle.session_cut_marks.specs.interned.Filled.{filled_to, lengths_to}
use Rattle.session_cut_marks.specs.interned.Slots.{slot_words}
use Rattle.session_cut_marks.specs.interned.Filler.{filled_by}
use mathlib.Core.Path.{◌≡◌}
use Rattle.session_cut_marks.proofs.kept.Kept.fill_table.Given as goal

abbrev pub invariant-loop-x : goal.invariant-loop-x
invariant-loop-x l =
    (filled_by l.filler ≡ at_kept filled_to l.self (slot_words l.initial.filler.table.now) l.x)
    × (l.lengths ≡ at_kept lengths_to l.self (slot_words l.initial.filler.table.now) l.initial.lengths l.x)
    × (l.filler.table.ghost_name ≡ l.initial.filler.table.ghost_name)

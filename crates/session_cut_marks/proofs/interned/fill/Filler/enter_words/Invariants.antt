use Rattle.session_cut_marks.specs.kept.AtKept.{at_kept}
use Rattle.session_cut_marks.specs.interned.Filled.{entered_to}
use Rattle.session_cut_marks.specs.interned.Slots.{slot_words}
use Rattle.session_cut_marks.specs.interned.Filler.{filled_by}
use mathlib.Core.Path.{◌≡◌}
use Rattle.session_cut_marks.proofs.interned.fill.Filler.enter_words.Given as goal

abbrev pub invariant-loop-j : goal.invariant-loop-j
invariant-loop-j l =
    (filled_by l.self ≡ at_kept entered_to l.from.kept l.x l.e.word l.initial.self.len (slot_words l.initial.self.table.now) l.j) × (l.self.table.ghost_name ≡ l.initial.self.table.ghost_name)

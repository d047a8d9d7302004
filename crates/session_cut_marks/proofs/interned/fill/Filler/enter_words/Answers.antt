use Rattle.session_cut_marks.proofs.interned.Laws.{no_words, more_words}
use mathlib.Core.Path.{refl, ◌∙◌}
use Rattle.session_cut_marks.proofs.interned.fill.Filler.enter_words.Goals as goal

pub loop-j-init : goal.loop-j-init
loop-j-init c = (no_words _ _ _ _ _ _ _ _, refl)

pub loop-j-preserved : goal.loop-j-preserved
loop-j-preserved c = (more_words _ _ _ _ _ _ _ _ _ _ _ _ c.loop-j.invariant.0 c.enter.ensures.filled, c.enter.ensures.same ∙ c.loop-j.invariant.1)

use mathlib.Core.Path.{◌∙◌, sym}
use Rattle.btf_layout.proofs.remembered.Laws.{remember_unsaid, remember_said}
use Rattle.btf_layout.proofs.remembered.remember.Goals as goal

pub returns-in-Some : goal.returns-in-Some
returns-in-Some c = remember_said _ _ _ _ _ _ _ (sym c.in-Some.is ∙ c.word.ensures) c.remember_word.ensures

pub returns-in_default : goal.returns-in_default
returns-in_default c = remember_unsaid _ _ _ _ _ (sym c.in_default.is ∙ c.word.ensures)

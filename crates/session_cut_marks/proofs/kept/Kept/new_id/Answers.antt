use mathlib.Core.Path.{sym, ◌∙◌, ap}
use Rattle.session_cut_marks.specs.tags.Tags.{some_number}
use Rattle.session_cut_marks.proofs.tags.Laws.{none_is, some_is}
use Rattle.session_cut_marks.proofs.kept.Kept.new_id.Goals as goal

pub returns-then-id-eq0 : goal.returns-then-id-eq0
returns-then-id-eq0 c = none_is _ (sym c.peek-id.ensures ∙ c.if-id-eq0.true)

pub returns : goal.returns
returns c = sym (some_is _ c.if-id-eq0.false) ∙ ap some_number c.peek-id.ensures

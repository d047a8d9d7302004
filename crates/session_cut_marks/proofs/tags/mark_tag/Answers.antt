use mathlib.Core.Path.{◌∙◌}
use Rattle.session_cut_marks.proofs.tags.Laws.{no_tag, tag_unmarked, tag_marked}
use Rattle.session_cut_marks.proofs.tags.mark_tag.Goals as goal

pub returns-in_default : goal.returns-in_default
returns-in_default c = no_tag _ _ _ _ _ _ c.tag_on.ensures c.in_default.is

pub returns-then-peek-eq0 : goal.returns-then-peek-eq0
returns-then-peek-eq0 c = tag_unmarked _ _ _ _ _ _ c.tag_on.ensures _ c.in-Some.is _ c.peek.ensures c.if-peek-eq0.true

pub returns : goal.returns
returns c = c.store.ensures ∙ tag_marked _ _ _ _ _ _ c.tag_on.ensures _ c.in-Some.is _ c.peek.ensures c.if-peek-eq0.false

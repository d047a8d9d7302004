use Rattle.session_cut_marks.proofs.tags.Laws.{none_tagged, more_tagged}
use Rattle.session_cut_marks.proofs.tags.mark_tags.Goals as goal

pub loop-x-init : goal.loop-x-init
loop-x-init c = none_tagged _ _ _ _

pub loop-x-preserved : goal.loop-x-preserved
loop-x-preserved c = more_tagged _ _ _ _ _ _ _ c.loop-x.invariant c.mark_tag.ensures

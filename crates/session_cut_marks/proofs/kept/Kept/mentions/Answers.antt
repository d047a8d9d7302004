use mathlib.Core.Path.{refl}
use Rattle.session_cut_marks.proofs.tags.Laws.{is_none_of, isnt_none_of}
use Rattle.session_cut_marks.proofs.mentioned.Laws.{not_kept, kept_mentions}
use Rattle.session_cut_marks.proofs.kept.Kept.mentions.Goals as goal

pub returns-then-is_none : goal.returns-then-is_none
returns-then-is_none c = not_kept _ _ _ _ _ _ _ refl (is_none_of _ _ c.new_id.ensures _ c.is_none.ensures c.if-is_none.true)

pub returns : goal.returns
returns c = kept_mentions _ _ _ _ _ _ _ refl (isnt_none_of _ _ c.new_id.ensures _ c.is_none.ensures c.if-is_none.false) _ c.entry-e.ensures _ c.words_in.ensures _ c.named_to.ensures

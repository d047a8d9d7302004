use mathlib.Core.Path.{refl}
use Rattle.session_cut_marks.proofs.tags.Laws.{is_none_of, isnt_none_of}
use Rattle.session_cut.proofs.writer.Laws.{tsize_none, tsize_is}
use Rattle.session_cut.proofs.writer.write.type_size.Goals as goal

pub returns-then-is_none : goal.returns-then-is_none
returns-then-is_none c = tsize_none _ _ _ _ _ _ refl (is_none_of _ _ c.new_id.ensures _ c.is_none.ensures c.if-is_none.true)

pub returns : goal.returns
returns c = tsize_is _ _ _ _ _ _ refl (isnt_none_of _ _ c.new_id.ensures _ c.is_none.ensures c.if-is_none.false) _ c.entry.ensures _ c.words_in.ensures

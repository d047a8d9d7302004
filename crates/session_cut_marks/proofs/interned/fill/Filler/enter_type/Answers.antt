use mathlib.Core.Path.{refl}
use Rattle.session_cut_marks.proofs.tags.Laws.{is_none_of, isnt_none_of}
use Rattle.session_cut_marks.proofs.interned.Laws.{type_none, type_is}
use Rattle.session_cut_marks.proofs.interned.fill.Filler.enter_type.Goals as goal

pub returns-then-is_none-clause-filled : goal.returns-then-is_none-clause-filled
returns-then-is_none-clause-filled c = type_none _ _ _ _ _ _ _ _ refl (is_none_of _ _ c.new_id.ensures _ c.is_none.ensures c.if-is_none.true)

pub returns-clause-filled : goal.returns-clause-filled
returns-clause-filled c = type_is _ _ _ _ _ _ _ _ refl (isnt_none_of _ _ c.new_id.ensures _ c.is_none.ensures c.if-is_none.false) _ c.entry.ensures _ c.enter_words.ensures.filled

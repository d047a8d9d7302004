use Rattle.std.proofs.lemmas.Bool.{not_from_true, not_from_false}
use Rattle.session_cut_marks.proofs.interned.Laws.{size_none, size_is}
use Rattle.session_cut_marks.proofs.interned.fill.Short.new_size.Goals as goal

pub returns-then-not-is_new : goal.returns-then-not-is_new
returns-then-not-is_new c = size_none _ _ _ _ _ _ _ _ c.is_new.ensures (not_from_false _ c.if-not-is_new.true)

pub returns : goal.returns
returns c = size_is _ _ _ _ _ _ _ _ c.is_new.ensures (not_from_true _ c.if-not-is_new.false) _ c.word_of.ensures _ c.size.ensures

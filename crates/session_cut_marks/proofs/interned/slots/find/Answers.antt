use Rattle.session_cut_marks.proofs.interned.Laws.{word_at, word_free, word_taken, found_none, found_some}
use Rattle.session_cut_marks.proofs.interned.slots.find.Goals as goal

pub returns-then-is_free : goal.returns-then-is_free
returns-then-is_free c = found_none _ _ _ _ _ _ c.slot_of.ensures (word_at _ _ _ c.peek-slot.ensures) (word_free _ _ c.is_free.ensures c.if-is_free.true)

pub returns : goal.returns
returns c = found_some _ _ _ _ _ _ c.slot_of.ensures (word_at _ _ _ c.peek-slot.ensures) (word_taken _ _ c.is_free.ensures c.if-is_free.false)

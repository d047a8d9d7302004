use Rattle.session_cut_marks.proofs.roles.Laws.{name_digit, no_name_digit}
use mathlib.Core.Path.{refl}
use Rattle.session_cut_marks.proofs.mentioned.Laws.{new_other, new_empty, new_mentioned, new_is}
use Rattle.session_cut_marks.proofs.kept.Kept.is_new.Goals as goal

pub returns-in_default : goal.returns-in_default
returns-in_default c = new_other _ _ _ _ _ _ _ _ refl (no_name_digit _ _ c.word_role.ensures c.in_default.not-Name)

pub returns-then-is_empty : goal.returns-then-is_empty
returns-then-is_empty c = new_empty _ _ _ _ _ _ _ _ refl (name_digit _ _ c.word_role.ensures c.in-Name.is) _ c.word_of-off.ensures _ c.is_empty.ensures c.if-is_empty.true

pub returns-then-mentioned_to : goal.returns-then-mentioned_to
returns-then-mentioned_to c = new_mentioned _ _ _ _ _ _ _ _ refl (name_digit _ _ c.word_role.ensures c.in-Name.is) _ c.word_of-off.ensures _ c.is_empty.ensures c.if-is_empty.false _ c.mentioned_to.ensures c.if-mentioned_to.true

pub returns : goal.returns
returns c = new_is _ _ _ _ _ _ _ _ refl (name_digit _ _ c.word_role.ensures c.in-Name.is) _ c.word_of-off.ensures _ c.is_empty.ensures c.if-is_empty.false _ c.mentioned_to.ensures c.if-mentioned_to.false _ c.named_to.ensures

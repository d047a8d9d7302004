use Rattle.session_cut_marks.proofs.roles.Laws.{name_digit, no_name_digit}
use Rattle.session_cut_marks.proofs.interned.Laws.{entered_over, entered_other, entered_empty, entered_name}
use mathlib.Core.Path.{refl}
use Rattle.session_cut_marks.proofs.interned.fill.Filler.enter.Goals as goal

pub returns-then-self-gt-MOST_BYTES_32-clause-filled : goal.returns-then-self-gt-MOST_BYTES_32-clause-filled
returns-then-self-gt-MOST_BYTES_32-clause-filled c = entered_over _ _ _ _ _ _ _ _ _ c.if-self-gt-MOST_BYTES_32.true

pub returns-in_default-clause-filled : goal.returns-in_default-clause-filled
returns-in_default-clause-filled c = entered_other _ _ _ _ _ _ _ _ _ c.if-self-gt-MOST_BYTES_32.false _ refl (no_name_digit _ _ c.word_role.ensures c.in_default.not-Name)

pub returns-then-is_empty-clause-filled : goal.returns-then-is_empty-clause-filled
returns-then-is_empty-clause-filled c =
    entered_empty _ _ _ _ _ _ _ _ _ c.if-self-gt-MOST_BYTES_32.false _ refl (name_digit _ _ c.word_role.ensures c.in-Name.is) _ c.word_of-off.ensures _ c.is_empty.ensures c.if-is_empty.true

pub returns-clause-filled : goal.returns-clause-filled
returns-clause-filled c =
    entered_name _ _ _ _ _ _ _ _ _ c.if-self-gt-MOST_BYTES_32.false _ refl (name_digit _ _ c.word_role.ensures c.in-Name.is) _ c.word_of-off.ensures _ c.is_empty.ensures c.if-is_empty.false _ refl _ c.settle.ensures.filled

use mathlib.Core.Path.{refl, ◌∙◌}
use native.Mathlib.Omega.{arith}
use Rattle.session_cut_marks.proofs.interned.Laws.{place_none, place_some}
use Rattle.session_cut_marks.proofs.roles.Laws.{name_digit, no_name_digit}
use Rattle.session_cut.proofs.writer.Laws.{seek_other, seek_empty, seek_is}
use Rattle.session_cut.proofs.writer.names.seek.Goals as goal

pub returns-in_default : goal.returns-in_default
returns-in_default c = seek_other _ _ _ _ _ _ refl (no_name_digit _ _ c.word_role.ensures c.in_default.not-Name)

pub returns-then-is_empty : goal.returns-then-is_empty
returns-then-is_empty c = seek_empty _ _ _ _ _ _ refl (name_digit _ _ c.word_role.ensures c.in-Name.is) _ c.word_of-off.ensures _ c.is_empty.ensures c.if-is_empty.true

pub returns-in_err-find : goal.returns-in_err-find
returns-in_err-find c = c.from_residual.ensures ∙ seek_is _ _ _ _ _ _ refl (name_digit _ _ c.word_role.ensures c.in-Name.is) _ c.word_of-off.ensures _ c.is_empty.ensures c.if-is_empty.false _ (place_none _ _ c.find.ensures c.in_err-find.was)

pub returns : goal.returns
returns c = seek_is _ _ _ _ _ _ refl (name_digit _ _ c.word_role.ensures c.in-Name.is) _ c.word_of-off.ensures _ c.is_empty.ensures c.if-is_empty.false _ (place_some _ _ c.find.ensures c.in_ok-find.field-0 (omega arith) c.in_ok-find.was)

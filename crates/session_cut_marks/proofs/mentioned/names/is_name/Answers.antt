use mathlib.Core.Path.{refl}
use Rattle.session_cut_marks.proofs.roles.Laws.{name_digit, no_name_digit}
use Rattle.session_cut_marks.proofs.mentioned.Laws.{no_name, name_is}
use Rattle.session_cut_marks.proofs.mentioned.names.is_name.Goals as goal

pub returns-in_default : goal.returns-in_default
returns-in_default c = no_name _ _ _ _ _ _ refl (no_name_digit _ _ c.word_role.ensures c.in_default.not-Name)

pub returns : goal.returns
returns c = name_is _ _ _ _ _ _ refl (name_digit _ _ c.word_role.ensures c.in-Name.is) _ c.word_of.ensures _ c.same_name.ensures

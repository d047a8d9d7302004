use native.Mathlib.Omega.{arith}
use Rattle.session_cut_marks.specs.roles.Words.{roles, role_of}
use Rattle.session_cut_marks.proofs.roles.Laws.{letter, letter_plain}
use Rattle.session_cut_marks.proofs.roles.row_role.Goals as goal

pub returns-in-49 : goal.returns-in-49
unfolding roles role_of
returns-in-49 c = letter _ _ _ c.peek.ensures 49 c.in-49.is

pub returns-in-50 : goal.returns-in-50
unfolding roles role_of
returns-in-50 c = letter _ _ _ c.peek.ensures 50 c.in-50.is

pub returns-in_default : goal.returns-in_default
unfolding roles
returns-in_default c = letter_plain _ _ _ c.peek.ensures (λ e. omega (arith, e)) (λ e. omega (arith, e))

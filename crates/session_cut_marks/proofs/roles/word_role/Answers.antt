use mathlib.Core.Path.{sym, ◌∙◌, ap}
use Prim.Native.Nat.{ℕ, ◌%◌}
use Rattle.session_cut_marks.specs.roles.Words.{role, role_of}
use Rattle.session_cut_marks.proofs.roles.Laws.{info_plain}
use Rattle.session_cut_marks.proofs.roles.word_role.Goals as goal

pub returns-in-1 : goal.returns-in-1
returns-in-1 c = info_plain (c.args.e.word % 32) ∙ ap (λ (j : ℕ). role_of (role (c.args.e.word % 32) j)) (sym c.in-1.is)

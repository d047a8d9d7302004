use mathlib.Core.Path.{sym, ap}
use mathlib.Core.Logic.{inl, inr}
use Prim.Native.Nat.{ℕ}
use Rattle.spec_type_table.specs.declared.kind.Kind.TheVariants.{Void, Unknown}
use Rattle.spec_type_table.proofs.KindNames.{is, isnt}
use Rattle.session_cut_marks.specs.roles.Words.{digit_at, entry_words, roles, column, role, role_of}
use Rattle.session_cut_marks.proofs.roles.Laws.{role_past, name_rest}
use Rattle.session_cut_marks.proofs.roles.name_role.Goals as goal

pub returns-in-Void : goal.returns-in-Void
unfolding entry_words digit_at roles column role role_of
returns-in-Void c = elim c.in-Void.is [ inl e ↦ ap (λ (k : ℕ). role_of (role k 0)) (sym (is _ _ c.kind.ensures Void e)) | inr e ↦ role_past _ 0 (is _ _ c.kind.ensures Unknown e) ]

pub returns-in_default : goal.returns-in_default
returns-in_default c = name_rest _ (isnt _ _ c.kind.ensures Void c.in_default.not-Void) (isnt _ _ c.kind.ensures Unknown c.in_default.not-Unknown)

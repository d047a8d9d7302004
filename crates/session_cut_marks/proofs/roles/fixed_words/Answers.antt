use mathlib.Core.Path.{sym, ap}
use mathlib.Core.Logic.{inl, inr}
use Rattle.spec_type_table.specs.declared.kind.Kind.TheVariants.{Int, Var, DeclTag, Array, Unknown}
use Rattle.spec_type_table.proofs.KindNames.{is, isnt}
use Rattle.session_cut_marks.specs.roles.Words.{digit_at, fixed_words}
use Rattle.session_cut_marks.proofs.roles.Laws.{fixed_past, fixed_rest}
use Rattle.session_cut_marks.proofs.roles.fixed_words.Goals as goal

pub returns-in-Int : goal.returns-in-Int
unfolding fixed_words digit_at
returns-in-Int c = elim c.in-Int.is [ inl e ↦ ap fixed_words (sym (is _ _ c.kind.ensures Int e)) | inr o ↦ elim o [ inl e ↦ ap fixed_words (sym (is _ _ c.kind.ensures Var e)) | inr e ↦ ap fixed_words (sym (is _ _ c.kind.ensures DeclTag e)) ] ]

pub returns-in-Array : goal.returns-in-Array
unfolding fixed_words digit_at
returns-in-Array c = ap fixed_words (sym (is _ _ c.kind.ensures Array c.in-Array.is))

pub returns-in-Unknown : goal.returns-in-Unknown
returns-in-Unknown c = fixed_past _ (is _ _ c.kind.ensures Unknown c.in-Unknown.is)

pub returns-in_default : goal.returns-in_default
returns-in_default c = fixed_rest _ (isnt _ _ c.kind.ensures Int c.in_default.not-Int) (isnt _ _ c.kind.ensures Var c.in_default.not-Var) (isnt _ _ c.kind.ensures DeclTag c.in_default.not-DeclTag) (isnt _ _ c.kind.ensures Array c.in_default.not-Array) (isnt _ _ c.kind.ensures Unknown c.in_default.not-Unknown)

use mathlib.Core.Path.{sym, ap}
use mathlib.Core.Logic.{inl, inr}
use Prim.Native.Nat.{ℕ}
use Rattle.spec_type_table.specs.declared.kind.Kind.TheVariants.{Ptr, Typedef, Volatile, Const, Restrict, Func, FuncProto, Var, DeclTag, TypeTag}
use Rattle.spec_type_table.proofs.KindNames.{is, isnt}
use Rattle.session_cut_marks.specs.roles.Words.{digit_at, entry_words, roles, column, role, role_of}
use Rattle.session_cut_marks.proofs.roles.Laws.{type_rest}
use Rattle.session_cut_marks.proofs.roles.type_role.Goals as goal

pub returns-in-Ptr : goal.returns-in-Ptr
unfolding entry_words digit_at roles column role role_of
returns-in-Ptr c = elim c.in-Ptr.is [ inl e ↦ ap (λ (k : ℕ). role_of (role k 2)) (sym (is _ _ c.kind.ensures Ptr e)) | inr o ↦ elim o [ inl e ↦ ap (λ (k : ℕ). role_of (role k 2)) (sym (is _ _ c.kind.ensures Typedef e)) | inr o ↦ elim o [ inl e ↦ ap (λ (k : ℕ). role_of (role k 2)) (sym (is _ _ c.kind.ensures Volatile e)) | inr o ↦ elim o [ inl e ↦ ap (λ (k : ℕ). role_of (role k 2)) (sym (is _ _ c.kind.ensures Const e)) | inr o ↦ elim o [ inl e ↦ ap (λ (k : ℕ). role_of (role k 2)) (sym (is _ _ c.kind.ensures Restrict e)) | inr o ↦ elim o [ inl e ↦ ap (λ (k : ℕ). role_of (role k 2)) (sym (is _ _ c.kind.ensures Func e)) | inr o ↦ elim o [ inl e ↦ ap (λ (k : ℕ). role_of (role k 2)) (sym (is _ _ c.kind.ensures FuncProto e)) | inr o ↦ elim o [ inl e ↦ ap (λ (k : ℕ). role_of (role k 2)) (sym (is _ _ c.kind.ensures Var e)) | inr o ↦ elim o [ inl e ↦ ap (λ (k : ℕ). role_of (role k 2)) (sym (is _ _ c.kind.ensures DeclTag e)) | inr e ↦ ap (λ (k : ℕ). role_of (role k 2)) (sym (is _ _ c.kind.ensures TypeTag e)) ] ] ] ] ] ] ] ] ]

pub returns-in_default : goal.returns-in_default
returns-in_default c = type_rest _ (isnt _ _ c.kind.ensures Ptr c.in_default.not-Ptr) (isnt _ _ c.kind.ensures Typedef c.in_default.not-Typedef) (isnt _ _ c.kind.ensures Volatile c.in_default.not-Volatile) (isnt _ _ c.kind.ensures Const c.in_default.not-Const) (isnt _ _ c.kind.ensures Restrict c.in_default.not-Restrict) (isnt _ _ c.kind.ensures Func c.in_default.not-Func) (isnt _ _ c.kind.ensures FuncProto c.in_default.not-FuncProto) (isnt _ _ c.kind.ensures Var c.in_default.not-Var) (isnt _ _ c.kind.ensures DeclTag c.in_default.not-DeclTag) (isnt _ _ c.kind.ensures TypeTag c.in_default.not-TypeTag)

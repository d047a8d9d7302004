use native.Mathlib.Omega.{arith}
use Prim.Native.Nat.{◌%◌}
use mathlib.Core.Path.{◌≡◌, refl, ◌∙◌}
use mathlib.Core.Logic.{inl, inr}
use Rattle.spec_type_table.specs.declared.kind.Kind.TheVariants.{Struct, Union, Enum, FuncProto, Datasec, Enum64}
use Rattle.spec_type_table.proofs.KindNames.{is, isnt}
use Rattle.session_cut_marks.specs.roles.Words.{digit_at, entry_words, roles, role_of}
use Rattle.session_cut_marks.proofs.roles.Laws.{two_of, three_of, last_two, flat, entry_rest}
use Rattle.session_cut_marks.proofs.roles.entry_role.Goals as goal

pub returns-in-0 : goal.returns-in-0
unfolding entry_words digit_at roles role_of
returns-in-0 c = elim c.in-Struct.is [ inl e ↦ three_of 4 0 _ _ (is _ _ c.kind.ensures Struct e) refl c.in-0.is | inr e ↦ three_of 5 0 _ _ (is _ _ c.kind.ensures Union e) refl c.in-0.is ]

pub returns-in-1 : goal.returns-in-1
unfolding entry_words digit_at roles role_of
returns-in-1 c = elim c.in-Struct.is [ inl e ↦ three_of 4 1 _ _ (is _ _ c.kind.ensures Struct e) refl c.in-1.is | inr e ↦ three_of 5 1 _ _ (is _ _ c.kind.ensures Union e) refl c.in-1.is ]

pub returns-in_default-2 : goal.returns-in_default-2
unfolding entry_words digit_at roles role_of
returns-in_default-2 c = let h : c.args.k % 3 ≡ 2 = omega arith in elim c.in-Struct.is [ inl e ↦ three_of 4 2 _ _ (is _ _ c.kind.ensures Struct e) refl h | inr e ↦ three_of 5 2 _ _ (is _ _ c.kind.ensures Union e) refl h ]

pub returns-in-0-2 : goal.returns-in-0-2
unfolding entry_words digit_at roles role_of
returns-in-0-2 c = two_of 13 0 _ _ (is _ _ c.kind.ensures FuncProto c.in-FuncProto.is) refl c.in-0-2.is

pub returns-in_default-3 : goal.returns-in_default-3
unfolding entry_words digit_at roles role_of
returns-in_default-3 c = let h : c.args.k % 2 ≡ 1 = omega arith in two_of 13 1 _ _ (is _ _ c.kind.ensures FuncProto c.in-FuncProto.is) refl h

pub returns-in-0-3 : goal.returns-in-0-3
unfolding entry_words digit_at roles role_of
returns-in-0-3 c = two_of 6 0 _ _ (is _ _ c.kind.ensures Enum c.in-Enum.is) refl c.in-0-3.is

pub returns-in_default-4 : goal.returns-in_default-4
unfolding entry_words digit_at roles role_of
returns-in_default-4 c = let h : c.args.k % 2 ≡ 1 = omega arith in two_of 6 1 _ _ (is _ _ c.kind.ensures Enum c.in-Enum.is) refl h

pub returns-in-0-4 : goal.returns-in-0-4
unfolding entry_words digit_at roles role_of
returns-in-0-4 c = three_of 19 0 _ _ (is _ _ c.kind.ensures Enum64 c.in-Enum64.is) refl c.in-0-4.is

pub returns-in_default-5 : goal.returns-in_default-5
unfolding entry_words digit_at roles role_of
returns-in_default-5 c = last_two 19 _ _ _ (is _ _ c.kind.ensures Enum64 c.in-Enum64.is) refl (λ e. omega arith) refl refl

pub returns-in-0-5 : goal.returns-in-0-5
unfolding entry_words digit_at roles role_of
returns-in-0-5 c = three_of 15 0 _ _ (is _ _ c.kind.ensures Datasec c.in-Datasec.is) refl c.in-0-5.is

pub returns-in_default-6 : goal.returns-in_default-6
unfolding entry_words digit_at roles role_of
returns-in_default-6 c = last_two 15 _ _ _ (is _ _ c.kind.ensures Datasec c.in-Datasec.is) refl (λ e. omega arith) refl refl

pub returns-in_default : goal.returns-in_default
returns-in_default c = c.row_role.ensures ∙ flat _ _ (entry_rest _ (isnt _ _ c.kind.ensures Struct c.in_default.not-Struct) (isnt _ _ c.kind.ensures Union c.in_default.not-Union) (isnt _ _ c.kind.ensures Datasec c.in_default.not-Datasec) (isnt _ _ c.kind.ensures Enum64 c.in_default.not-Enum64) (isnt _ _ c.kind.ensures Enum c.in_default.not-Enum) (isnt _ _ c.kind.ensures FuncProto c.in_default.not-FuncProto))

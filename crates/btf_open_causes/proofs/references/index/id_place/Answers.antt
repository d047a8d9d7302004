use native.Mathlib.Omega.{arith}
use mathlib.Core.Path.{◌≡◌}
use mathlib.Core.Logic.{⊎_elim, inl, inr}
use Rattle.std.proofs.lemmas.Bool.{cases_lt}
use Rattle.spec_type_table.specs.declared.kind.Kind.TheVariants.{Array, Struct, Union, FuncProto}
use Rattle.spec_type_table.proofs.KindNames.{is, isnt}
use Rattle.btf_open_causes.proofs.references.Accessors.{id_element, id_members, id_result, id_param, id_target, no_composite}
use Rattle.btf_open_causes.proofs.references.index.id_place.Goals as goal

pub returns-in-Array : goal.returns-in-Array
returns-in-Array c n f = id_element _ _ _ (is _ _ f Array c.in-Array.is)

pub returns-in-Struct : goal.returns-in-Struct
returns-in-Struct c n f =
    elim c.in-Struct.is [ inl e ↦ (let q : n ≡ 4 = is _ _ f Struct e in id_members _ _ _ (omega arith) (omega arith) _ c.member_place.ensures) | inr e ↦ (let q : n ≡ 5 = is _ _ f Union e in id_members _ _ _ (omega arith) (omega arith) _ c.member_place.ensures) ]

pub returns-then-k-eq0 : goal.returns-then-k-eq0
returns-then-k-eq0 c n f = id_result _ _ _ (is _ _ f FuncProto c.in-FuncProto.is) c.if-k-eq0.true

pub returns-else-k-eq0 : goal.returns-else-k-eq0
returns-else-k-eq0 c n f = id_param _ _ _ (is _ _ f FuncProto c.in-FuncProto.is) c.if-k-eq0.false _ c.param_place.ensures

pub returns-in_default : goal.returns-in_default
returns-in_default c n f =
    let n3 : n ≡ 3 → ⊥ = isnt _ _ f Array c.in_default.not-Array in
    let n4 : n ≡ 4 → ⊥ = isnt _ _ f Struct c.in_default.not-Struct in
    let n5 : n ≡ 5 → ⊥ = isnt _ _ f Union c.in_default.not-Union in
    let n13 : n ≡ 13 → ⊥ = isnt _ _ f FuncProto c.in_default.not-FuncProto in
    id_target _ _ _ n3 (no_composite n (⊎_elim (λ l. inl (omega arith)) (λ l. inr l) (cases_lt n 6))) n13

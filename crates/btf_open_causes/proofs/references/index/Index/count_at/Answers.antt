use native.Mathlib.Omega.{arith}
use mathlib.Core.Path.{◌≡◌}
use mathlib.Core.Logic.{⊎_elim, inl, inr}
use Rattle.std.proofs.lemmas.Bool.{cases_lt}
use Rattle.spec_type_table.specs.declared.kind.Kind.TheVariants.{Ptr, Array, Typedef, Volatile, Const, Restrict, TypeTag, Struct, Union, FuncProto}
use Rattle.spec_type_table.proofs.KindNames.{is, isnt}
use Rattle.btf_open_causes.proofs.references.Accessors.{count_by, count_any, count_none, count_tag, count_pointer, count_through, count_members, count_proto}
use Rattle.btf_open_causes.proofs.references.index.Index.count_at.Goals as goal

pub returns-in-Ptr : goal.returns-in-Ptr
returns-in-Ptr c n f =
    elim c.in-Ptr.is [ inl e ↦ (let q : n ≡ 2 = is _ _ f Ptr e in count_any _ _ _ _ _ (count_pointer _ _ (omega arith) (omega arith))) | inr o ↦ elim o [ inl e ↦ (let q : n ≡ 3 = is _ _ f Array e in count_any _ _ _ _ _ (count_pointer _ _ (omega arith) (omega arith))) | inr o ↦ elim o [ inl e ↦ (let q : n ≡ 8 = is _ _ f Typedef e in count_any _ _ _ _ _ (count_through _ _ (omega arith) (omega arith))) | inr o ↦ elim o [ inl e ↦ (let q : n ≡ 9 = is _ _ f Volatile e in count_any _ _ _ _ _ (count_through _ _ (omega arith) (omega arith))) | inr o ↦ elim o [ inl e ↦ (let q : n ≡ 10 = is _ _ f Const e in count_any _ _ _ _ _ (count_through _ _ (omega arith) (omega arith))) | inr o ↦ elim o [ inl e ↦ (let q : n ≡ 11 = is _ _ f Restrict e in count_any _ _ _ _ _ (count_through _ _ (omega arith) (omega arith))) | inr e ↦ (let q : n ≡ 18 = is _ _ f TypeTag e in count_any _ _ _ _ _ (count_tag _ _ q)) ] ] ] ] ] ]

pub returns-in-Struct : goal.returns-in-Struct
returns-in-Struct c n f =
    elim c.in-Struct.is [ inl e ↦ (let q : n ≡ 4 = is _ _ f Struct e in count_by _ _ _ _ _ _ c.vlen_at.ensures (count_members _ _ (omega arith) (omega arith))) | inr e ↦ (let q : n ≡ 5 = is _ _ f Union e in count_by _ _ _ _ _ _ c.vlen_at.ensures (count_members _ _ (omega arith) (omega arith))) ]

pub returns-in-FuncProto : goal.returns-in-FuncProto
returns-in-FuncProto c n f =
    let q : n ≡ 13 = is _ _ f FuncProto c.in-FuncProto.is in count_by _ _ _ _ _ _ c.vlen_at-in-FuncProto.ensures (count_proto _ _ q)

pub returns-in_default : goal.returns-in_default
returns-in_default c n f =
    let n2 : n ≡ 2 → ⊥ = isnt _ _ f Ptr c.in_default.not-Ptr in
    let n3 : n ≡ 3 → ⊥ = isnt _ _ f Array c.in_default.not-Array in
    let n8 : n ≡ 8 → ⊥ = isnt _ _ f Typedef c.in_default.not-Typedef in
    let n9 : n ≡ 9 → ⊥ = isnt _ _ f Volatile c.in_default.not-Volatile in
    let n10 : n ≡ 10 → ⊥ = isnt _ _ f Const c.in_default.not-Const in
    let n11 : n ≡ 11 → ⊥ = isnt _ _ f Restrict c.in_default.not-Restrict in
    let n18 : n ≡ 18 → ⊥ = isnt _ _ f TypeTag c.in_default.not-TypeTag in
    let n4 : n ≡ 4 → ⊥ = isnt _ _ f Struct c.in_default.not-Struct in
    let n5 : n ≡ 5 → ⊥ = isnt _ _ f Union c.in_default.not-Union in
    let n13 : n ≡ 13 → ⊥ = isnt _ _ f FuncProto c.in_default.not-FuncProto in
    count_any _ _ _ _ _ (count_none _ _ n13 n18 (⊎_elim (λ l. ⊎_elim (λ m. inl (omega arith)) (λ m. inr (inl (omega arith, omega arith))) (cases_lt n 6)) (λ l. inr (inr (omega arith))) (cases_lt n 8)))

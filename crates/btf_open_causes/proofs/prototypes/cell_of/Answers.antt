use native.Mathlib.Omega.{arith}
use mathlib.Core.Path.{◌≡◌, refl}
use Rattle.btf_open_causes.specs.references.Followed.{kind_at}
use mathlib.Core.Logic.{⊎_elim, inl, inr}
use Rattle.std.proofs.lemmas.Bool.{cases_lt}
use Rattle.spec_type_table.specs.declared.kind.Kind.TheVariants.{Array, Typedef, Volatile, Const, Restrict, TypeTag, FuncProto}
use Rattle.spec_type_table.proofs.KindNames.{is, isnt}
use Rattle.std.proofs.Common.{sym}
use Rattle.btf_open_causes.proofs.prototypes.Held.{what_proto, what_one, what_through, what_none}
use Rattle.btf_open_causes.proofs.prototypes.Cells.{says_no}
use Rattle.btf_open_causes.proofs.prototypes.cell_of.Goals as goal

pub returns-in-Array : goal.returns-in-Array
returns-in-Array c =
    elim c.in-Array.is [ inl e ↦ (let q : kind_at c.args.i.now.table.head c.args.i.now.start.now c.args.x ≡ 3 = is _ _ c.kind_at.ensures Array e in sym (what_one _ _ _ _ refl (inl q))) | inr o ↦ elim o [ inl e ↦ (let q : kind_at c.args.i.now.table.head c.args.i.now.start.now c.args.x ≡ 8 = is _ _ c.kind_at.ensures Typedef e in sym (what_through _ _ _ _ refl (omega arith) (omega arith))) | inr o ↦ elim o [ inl e ↦ (let q : kind_at c.args.i.now.table.head c.args.i.now.start.now c.args.x ≡ 9 = is _ _ c.kind_at.ensures Volatile e in sym (what_through _ _ _ _ refl (omega arith) (omega arith))) | inr o ↦ elim o [ inl e ↦ (let q : kind_at c.args.i.now.table.head c.args.i.now.start.now c.args.x ≡ 10 = is _ _ c.kind_at.ensures Const e in sym (what_through _ _ _ _ refl (omega arith) (omega arith))) | inr o ↦ elim o [ inl e ↦ (let q : kind_at c.args.i.now.table.head c.args.i.now.start.now c.args.x ≡ 11 = is _ _ c.kind_at.ensures Restrict e in sym (what_through _ _ _ _ refl (omega arith) (omega arith))) | inr e ↦ (let q : kind_at c.args.i.now.table.head c.args.i.now.start.now c.args.x ≡ 18 = is _ _ c.kind_at.ensures TypeTag e in sym (what_one _ _ _ _ refl (inr q))) ] ] ] ] ]

pub returns-in-FuncProto : goal.returns-in-FuncProto
returns-in-FuncProto c =
    (let q : kind_at c.args.i.now.table.head c.args.i.now.start.now c.args.x ≡ 13 = is _ _ c.kind_at.ensures FuncProto c.in-FuncProto.is in sym (what_proto _ _ _ _ refl q))

pub returns-in_default : goal.returns-in_default
returns-in_default c =
    let n3 : kind_at c.args.i.now.table.head c.args.i.now.start.now c.args.x ≡ 3 → ⊥ = isnt _ _ c.kind_at.ensures Array c.in_default.not-Array in
    let n8 : kind_at c.args.i.now.table.head c.args.i.now.start.now c.args.x ≡ 8 → ⊥ = isnt _ _ c.kind_at.ensures Typedef c.in_default.not-Typedef in
    let n9 : kind_at c.args.i.now.table.head c.args.i.now.start.now c.args.x ≡ 9 → ⊥ = isnt _ _ c.kind_at.ensures Volatile c.in_default.not-Volatile in
    let n10 : kind_at c.args.i.now.table.head c.args.i.now.start.now c.args.x ≡ 10 → ⊥ = isnt _ _ c.kind_at.ensures Const c.in_default.not-Const in
    let n11 : kind_at c.args.i.now.table.head c.args.i.now.start.now c.args.x ≡ 11 → ⊥ = isnt _ _ c.kind_at.ensures Restrict c.in_default.not-Restrict in
    let n18 : kind_at c.args.i.now.table.head c.args.i.now.start.now c.args.x ≡ 18 → ⊥ = isnt _ _ c.kind_at.ensures TypeTag c.in_default.not-TypeTag in
    let n13 : kind_at c.args.i.now.table.head c.args.i.now.start.now c.args.x ≡ 13 → ⊥ = isnt _ _ c.kind_at.ensures FuncProto c.in_default.not-FuncProto in
    says_no _ (what_none _ _ _ _ refl (λ o. ⊎_elim n3 n18 o) n13 (⊎_elim (λ l. inl (omega arith)) (λ l. inr l) (cases_lt (kind_at c.args.i.now.table.head c.args.i.now.start.now c.args.x) 12)))

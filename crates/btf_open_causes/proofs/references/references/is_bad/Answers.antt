use native.Mathlib.Omega.{arith}
use mathlib.Core.Path.{◌≡◌, refl}
use Rattle.btf_open_causes.specs.references.Followed.{kind_at}
use mathlib.Core.Logic.{⊎_elim, inl, inr}
use Rattle.std.proofs.lemmas.Bool.{cases_lt}
use Rattle.spec_type_table.specs.declared.kind.Kind.TheVariants.{Func, Var, Datasec, DeclTag}
use Rattle.spec_type_table.proofs.KindNames.{is, isnt}
use Rattle.btf_open_causes.proofs.references.BadIds.{bad_out, bad_one, bad_two, bad_none}
use Rattle.btf_open_causes.proofs.references.references.is_bad.Goals as goal

pub returns-then-n-y : goal.returns-then-n-y
returns-then-n-y c =
    bad_out _ _ _ _ c.count-n.ensures c.if-n-y.true

pub returns-in-Func : goal.returns-in-Func
returns-in-Func c =
    elim c.in-Func.is [ inl e ↦ (let q : kind_at c.args.i.now.table.head c.args.i.now.start.now c.args.y ≡ 12 = is _ _ c.kind_at.ensures Func e in bad_one _ _ _ _ c.count-n.ensures c.if-n-y.false _ refl (inl q)) | inr o ↦ elim o [ inl e ↦ (let q : kind_at c.args.i.now.table.head c.args.i.now.start.now c.args.y ≡ 14 = is _ _ c.kind_at.ensures Var e in bad_two _ _ _ _ c.count-n.ensures c.if-n-y.false _ refl (omega arith) (omega arith)) | inr o ↦ elim o [ inl e ↦ (let q : kind_at c.args.i.now.table.head c.args.i.now.start.now c.args.y ≡ 15 = is _ _ c.kind_at.ensures Datasec e in bad_two _ _ _ _ c.count-n.ensures c.if-n-y.false _ refl (omega arith) (omega arith)) | inr e ↦ (let q : kind_at c.args.i.now.table.head c.args.i.now.start.now c.args.y ≡ 17 = is _ _ c.kind_at.ensures DeclTag e in bad_one _ _ _ _ c.count-n.ensures c.if-n-y.false _ refl (inr q)) ] ] ]

pub returns-in_default : goal.returns-in_default
returns-in_default c =
    let n12 : kind_at c.args.i.now.table.head c.args.i.now.start.now c.args.y ≡ 12 → ⊥ = isnt _ _ c.kind_at.ensures Func c.in_default.not-Func in
    let n14 : kind_at c.args.i.now.table.head c.args.i.now.start.now c.args.y ≡ 14 → ⊥ = isnt _ _ c.kind_at.ensures Var c.in_default.not-Var in
    let n15 : kind_at c.args.i.now.table.head c.args.i.now.start.now c.args.y ≡ 15 → ⊥ = isnt _ _ c.kind_at.ensures Datasec c.in_default.not-Datasec in
    let n17 : kind_at c.args.i.now.table.head c.args.i.now.start.now c.args.y ≡ 17 → ⊥ = isnt _ _ c.kind_at.ensures DeclTag c.in_default.not-DeclTag in
    bad_none _ _ _ _ c.count-n.ensures c.if-n-y.false _ refl (λ o. ⊎_elim n12 n17 o) (⊎_elim (λ l. inl (omega arith)) (λ l. inr l) (cases_lt (kind_at c.args.i.now.table.head c.args.i.now.start.now c.args.y) 16))

use mathlib.Core.Path.{◌≡◌, refl}
use mathlib.Core.Logic.{⊎_elim, inl, inr}
use Rattle.spec_type_table.specs.declared.kind.Kind.TheVariants.{Enum, Enum64}
use Rattle.spec_type_table.proofs.KindNames.{is, isnt}
use Rattle.spec_type_table.specs.Records.{kind_of}
use Rattle.btf_open_causes.proofs.records.Pass.{enums_some, enums_none}
use Rattle.btf_open_causes.proofs.records.enumerators_of.Goals as goal

pub returns-in-Enum : goal.returns-in-Enum
returns-in-Enum c =
    elim c.in-Enum.is [ inl e ↦ (let q : kind_of c.args.info ≡ 6 = is _ _ c.of.ensures Enum e in enums_some _ _ refl (inl q) _ c.vlen_of.ensures) | inr e ↦ (let q : kind_of c.args.info ≡ 19 = is _ _ c.of.ensures Enum64 e in enums_some _ _ refl (inr q) _ c.vlen_of.ensures) ]

pub returns-in_default : goal.returns-in_default
returns-in_default c =
    let n6 : kind_of c.args.info ≡ 6 → ⊥ = isnt _ _ c.of.ensures Enum c.in_default.not-Enum in
    let n19 : kind_of c.args.info ≡ 19 → ⊥ = isnt _ _ c.of.ensures Enum64 c.in_default.not-Enum64 in
    enums_none _ _ refl (λ o. ⊎_elim n6 n19 o)

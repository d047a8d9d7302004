use native.Mathlib.Omega.{arith}
use mathlib.Core.Path.{◌≡◌}
use mathlib.Core.Logic.{⊎_elim, inl, inr}
use Rattle.std.proofs.lemmas.Bool.{cases_lt}
use Rattle.spec_type_table.specs.declared.kind.Kind.TheVariants.{Struct, Union, Enum64, Enum, FuncProto}
use Rattle.spec_type_table.proofs.KindNames.{is, isnt}
use Rattle.spec_type_table.specs.Records.{kind_of}
use Rattle.btf_open_causes.proofs.records.Pass.{width_low, width_composite, width_eight, width_last, width_high}
use Rattle.btf_open_causes.proofs.records.named_entry.Goals as goal

pub returns-in-Struct : goal.returns-in-Struct
returns-in-Struct c =
    elim c.in-Struct.is [ inl e ↦ (let q : kind_of c.args.info ≡ 4 = is _ _ c.of.ensures Struct e in width_composite _ (omega arith) (omega arith)) | inr o ↦ elim o [ inl e ↦ (let q : kind_of c.args.info ≡ 5 = is _ _ c.of.ensures Union e in width_composite _ (omega arith) (omega arith)) | inr e ↦ (let q : kind_of c.args.info ≡ 19 = is _ _ c.of.ensures Enum64 e in width_last _ q) ] ]

pub returns-in-Enum : goal.returns-in-Enum
returns-in-Enum c =
    elim c.in-Enum.is [ inl e ↦ (let q : kind_of c.args.info ≡ 6 = is _ _ c.of.ensures Enum e in width_eight _ (inl q)) | inr e ↦ (let q : kind_of c.args.info ≡ 13 = is _ _ c.of.ensures FuncProto e in width_eight _ (inr q)) ]

pub returns-in_default : goal.returns-in_default
returns-in_default c =
    let n4 : kind_of c.args.info ≡ 4 → ⊥ = isnt _ _ c.of.ensures Struct c.in_default.not-Struct in
    let n5 : kind_of c.args.info ≡ 5 → ⊥ = isnt _ _ c.of.ensures Union c.in_default.not-Union in
    let n19 : kind_of c.args.info ≡ 19 → ⊥ = isnt _ _ c.of.ensures Enum64 c.in_default.not-Enum64 in
    let n6 : kind_of c.args.info ≡ 6 → ⊥ = isnt _ _ c.of.ensures Enum c.in_default.not-Enum in
    let n13 : kind_of c.args.info ≡ 13 → ⊥ = isnt _ _ c.of.ensures FuncProto c.in_default.not-FuncProto in
    ⊎_elim (λ l. width_low _ (omega arith)) (λ l. width_high _ (omega arith) (λ o. ⊎_elim n6 n13 o) n19) (cases_lt (kind_of c.args.info) 6)

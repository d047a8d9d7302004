use Prim.Native.Nat.{◌%◌}
use native.Mathlib.Omega.{arith}
use mathlib.Core.Path.{◌≡◌}
use mathlib.Core.Logic.{⊎_elim, inl, inr}
use Rattle.std.proofs.lemmas.Bool.{cases_lt}
use Rattle.spec_type_table.specs.declared.kind.Kind.TheVariants.{Array, Struct, Union}
use Rattle.spec_type_table.proofs.KindNames.{is, isnt}
use Rattle.btf_open_causes.proofs.references.Accessors.{count_told}
use Rattle.btf_open_causes.proofs.prototypes.Held.{asks_inside, asks_none}
use Rattle.btf_open_causes.proofs.prototypes.asks.Goals as goal

pub returns-in-Array : goal.returns-in-Array
returns-in-Array c =
    elim c.in-Array.is [ inl e ↦ (let q : (c.args.e.word % 32) ≡ 3 = is _ _ c.kind.ensures Array e in asks_inside _ _ _ _ (omega arith) (omega arith) _ (count_told _ _ _ _ c.place.ensures _ (c.count_at.ensures _ c.kind.ensures))) | inr o ↦ elim o [ inl e ↦ (let q : (c.args.e.word % 32) ≡ 4 = is _ _ c.kind.ensures Struct e in asks_inside _ _ _ _ (omega arith) (omega arith) _ (count_told _ _ _ _ c.place.ensures _ (c.count_at.ensures _ c.kind.ensures))) | inr e ↦ (let q : (c.args.e.word % 32) ≡ 5 = is _ _ c.kind.ensures Union e in asks_inside _ _ _ _ (omega arith) (omega arith) _ (count_told _ _ _ _ c.place.ensures _ (c.count_at.ensures _ c.kind.ensures))) ] ]

pub returns-in_default : goal.returns-in_default
returns-in_default c =
    let n3 : (c.args.e.word % 32) ≡ 3 → ⊥ = isnt _ _ c.kind.ensures Array c.in_default.not-Array in
    let n4 : (c.args.e.word % 32) ≡ 4 → ⊥ = isnt _ _ c.kind.ensures Struct c.in_default.not-Struct in
    let n5 : (c.args.e.word % 32) ≡ 5 → ⊥ = isnt _ _ c.kind.ensures Union c.in_default.not-Union in
    asks_none _ _ _ _ (⊎_elim (λ l. inl (omega arith)) (λ l. inr l) (cases_lt (c.args.e.word % 32) 6))

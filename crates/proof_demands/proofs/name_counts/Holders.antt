-- Laws of the Rust's ledger: one more holder of a name is one more of that name in that space, and of no other. Assumes nothing.
use Prim.Native.Nat.{ℕ}
use mathlib.Core.Path.{◌≡◌, refl, ap, ◌∙◌, sym}
use mathlib.Core.Bool.{Bool, true, false}
use mathlib.Core.List.{List, [], ◌∷◌}
use Rattle.spec_bytes.specs.words.Words.{one_more}
use Rattle.spec_c_dumper.specs.rules.Types.{Name}
use Rattle.spec_c_dumper.specs.rules.Names.{Space, Holder, holds, holders, with_one}
use Rattle.spec_c_dumper.proofs.rules.Names.{holds_same}

module _ (space : Space) (name : Name) where
  -- no other name has
  module _ (space' : Space) (name' : Name) (other : space ≡ space' → name ≡ name' → ⊥) where
    holds_not : (h : Holder) → h.space ≡ space → h.name ≡ name → holds h space' name' ≡ false
    holds_not h p q = step (holds h space' name') refl
      where
        step : (t : Bool) → holds h space' name' ≡ t → t ≡ false
        step true r = let m : (h.space ≡ space') × (h.name ≡ name') = holds_same h space' name' r in absurd (other (sym p ∙ m.0) (sym q ∙ m.1))
        step false r = refl

    pub count_there : (l : List Holder) → holders (with_one l space name) space' name' ≡ holders l space' name'
    unfolding holders with_one
    count_there [] = ap (λ (t : Bool). elim t as (λ z. ℕ) [ true ↦ 1 | false ↦ 0 ]) (holds_not (record { space = space; name = name; count = 1 }) refl refl)
    count_there (h ∷ l) = step (holds h space name) refl (count_there l)
      where
        step : (t : Bool) → holds h space name ≡ t → holders (with_one l space name) space' name' ≡ holders l space' name'
            → holders (elim t as (λ z. List Holder) [ true ↦ record { space = h.space; name = h.name; count = one_more h.count } ∷ l | false ↦ h ∷ with_one l space name ]) space' name'
            ≡ elim (holds h space' name') as (λ z. ℕ) [ true ↦ h.count | false ↦ holders l space' name' ]
        step true q f =
            let m : (h.space ≡ space) × (h.name ≡ name) = holds_same h space name q in
            ap (λ (t : Bool). elim t as (λ z. ℕ) [ true ↦ one_more h.count | false ↦ holders l space' name' ]) (holds_not (record { space = h.space; name = h.name; count = one_more h.count }) m.0 m.1)
            ∙ sym (ap (λ (t : Bool). elim t as (λ z. ℕ) [ true ↦ h.count | false ↦ holders l space' name' ]) (holds_not h m.0 m.1))
        step false q f = ap (λ (n : ℕ). elim (holds h space' name') as (λ z. ℕ) [ true ↦ h.count | false ↦ n ]) f

-- A list that ends in x, split at c.
use Prim.Native.Nat.{ℕ}
use native.Mathlib.Omega.{arith}
use mathlib.Core.Path.{◌≡◌, refl}
use mathlib.Core.List.{List, [], ◌∷◌, ◌++◌}
use mathlib.Core.Logic.{◌⊎◌, inl, inr}

module _ {A : Type 0} where
  pub nil_not : (l k : List A) (c : A) → [] ≡ l ++ (c ∷ k) → ⊥
  nil_not [] k c e = let z : ◌≡◌ {A = ℕ} 0 1 = cc in omega arith
  nil_not (x ∷ l) k c e = let z : ◌≡◌ {A = ℕ} 0 1 = cc in omega arith

  pub snoc_split : (l l₁ l₂ : List A) (x c : A) → l ++ (x ∷ []) ≡ l₁ ++ (c ∷ l₂) → ((l ≡ l₁) × (x ≡ c)) ⊎ ((k : List A) × (l ≡ l₁ ++ (c ∷ k)))
  snoc_split [] [] l₂ x c e = inl (refl, cc)
  snoc_split (a ∷ l) [] l₂ x c e = inr (l, cc)
  snoc_split [] (b ∷ l₁) l₂ x c e = let z : [] ≡ l₁ ++ (c ∷ l₂) = cc in absurd (nil_not l₁ l₂ c z)
  snoc_split (a ∷ l) (b ∷ l₁) l₂ x c e = let h : a ≡ b = cc in go h (snoc_split l l₁ l₂ x c (cc))
    where
      go : a ≡ b → ((l ≡ l₁) × (x ≡ c)) ⊎ ((k : List A) × (l ≡ l₁ ++ (c ∷ k))) → ((a ∷ l ≡ b ∷ l₁) × (x ≡ c)) ⊎ ((k : List A) × (a ∷ l ≡ b ∷ (l₁ ++ (c ∷ k))))
      go h (inl q) = let q₀ : l ≡ l₁ = q.0 in inl (cc, q.1)
      go h (inr q) = let q₁ : l ≡ l₁ ++ (c ∷ q.0) = q.1 in inr (q.0, cc)

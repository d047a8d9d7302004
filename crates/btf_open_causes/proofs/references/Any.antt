-- `any_below` finds what there is. Assumes nothing.
use Prim.Native.Nat.{ℕ, zero, suc, ◌+◌, ◌<◌, ◌≤◌}
use mathlib.Core.Path.{◌≡◌, refl, ap, ◌∙◌, sym}
use mathlib.Core.Bool.{Bool, true, false, true≢false}
use native.Mathlib.Omega.{arith}
use native.Mathlib.Decide.{ℕ_discrete}
use mathlib.Core.Bool.{◌||◌}
use Rattle.std.specs.List.{list_any, range_with_len}
use Rattle.btf_open_causes.specs.references.Any.{any_below}

pub any_find : (n : ℕ) (f : ℕ → Bool) → any_below n f ≡ true → (i : ℕ) × (i < n) × (f i ≡ true)
unfolding any_below
any_find zero f e = absurd (true≢false (sym e))
any_find (suc n) f e = go (f n) refl e (any_find n f)
  where
    go : (t : Bool) → f n ≡ t → (elim t as (λ z. Bool) [ true ↦ true | false ↦ any_below n f ]) ≡ true
        → (any_below n f ≡ true → (i : ℕ) × (i < n) × (f i ≡ true)) → (i : ℕ) × (i < suc n) × (f i ≡ true)
    go true p q ih = (n, (omega arith), p)
    go false p q ih = let r = ih q in (r.0, up r.0 r.1, r.2)
      where
        up : (i : ℕ) → i < n → i < suc n
        up i h = omega arith

pub any_yes : (n : ℕ) (f : ℕ → Bool) (i : ℕ) → i < n → f i ≡ true → any_below n f ≡ true
unfolding any_below
any_yes zero f i h e = absurd (omega arith)
any_yes (suc n) f i h e = go (f n) refl (any_yes n f i)
  where
    go : (t : Bool) → f n ≡ t → (i < n → f i ≡ true → any_below n f ≡ true) → (elim t as (λ z. Bool) [ true ↦ true | false ↦ any_below n f ]) ≡ true
    go true p ih = refl
    go false p ih = elim (ℕ_discrete i n) [ yes q ↦ absurd (true≢false (sym e ∙ ap f q ∙ p)) | no q ↦ ih (omega arith) e ]

none_below : (n : ℕ) (f : ℕ → Bool) → ((v : ℕ) → v < n → f v ≡ false) → false ≡ any_below n f
none_below n f h = go (any_below n f) refl
  where
    go : (t : Bool) → any_below n f ≡ t → false ≡ t
    go true e = let q = any_find n f e in absurd (true≢false (sym q.2 ∙ h q.0 q.1))
    go false e = refl

-- a range is gone through from its start on
range_find : (f : ℕ → Bool) (n a : ℕ) → list_any f (range_with_len a n) ≡ true → (i : ℕ) × (i < a + n) × (f i ≡ true)
range_find f zero a e = absurd (true≢false (sym e))
range_find f (suc n) a e = go (f a) refl e (range_find f n (a + 1))
  where
    go : (t : Bool) → f a ≡ t → (t || list_any f (range_with_len (a + 1) n)) ≡ true
        → (list_any f (range_with_len (a + 1) n) ≡ true → (i : ℕ) × (i < a + 1 + n) × (f i ≡ true)) → (i : ℕ) × (i < a + suc n) × (f i ≡ true)
    go true p q ih = (a, (omega arith), p)
    go false p q ih = let r = ih q in (r.0, up r.0 r.1, r.2)
      where
        up : (i : ℕ) → i < a + 1 + n → i < a + suc n
        up i h = omega arith

range_yes : (f : ℕ → Bool) (n a i : ℕ) → a ≤ i → i < a + n → f i ≡ true → list_any f (range_with_len a n) ≡ true
range_yes f zero a i l h e = absurd (omega arith)
range_yes f (suc n) a i l h e = go (f a) refl (range_yes f n (a + 1) i)
  where
    go : (t : Bool) → f a ≡ t → (a + 1 ≤ i → i < a + 1 + n → f i ≡ true → list_any f (range_with_len (a + 1) n) ≡ true)
        → (t || list_any f (range_with_len (a + 1) n)) ≡ true
    go true p ih = refl
    go false p ih = elim (ℕ_discrete i a) [ yes q ↦ absurd (true≢false (sym e ∙ ap f q ∙ p)) | no q ↦ ih (omega arith) (omega arith) e ]

-- `any` over the numbers below n
pub any_range : (f : ℕ → Bool) (n : ℕ) → list_any f (range_with_len 0 n) ≡ any_below n f
any_range f n = go (list_any f (range_with_len 0 n)) (any_below n f) refl refl
  where
    go : (t u : Bool) → list_any f (range_with_len 0 n) ≡ t → any_below n f ≡ u → t ≡ u
    go true true p q = refl
    go false false p q = refl
    go true false p q = let r = range_find f n 0 p in absurd (true≢false (sym (any_yes n f r.0 (omega arith) r.2) ∙ q))
    go false true p q = let r = any_find n f q in absurd (true≢false (sym (range_yes f n 0 r.0 (omega arith) (omega arith) r.2) ∙ p))

pub one_more : (f : ℕ → Bool) (i : ℕ) → ((v : ℕ) → v < i → f v ≡ false) → f i ≡ false → (v : ℕ) → v < i + 1 → f v ≡ false
one_more f i h s v l = elim (ℕ_discrete v i) [ yes e ↦ ap f e ∙ s | no n ↦ h v (omega arith) ]

-- a loop's answers, with f k as it is told by a call
module _ (f : ℕ → Bool) (n m k : ℕ) (e : n ≡ m) where
  pub found_below : (r : Bool) → k < n → r ≡ f k → r ≡ true → true ≡ any_below m f
  found_below r h g t = sym (any_yes m f k (omega arith) (sym g ∙ t))

  pub none_found : n ≤ k → ((v : ℕ) → v < k → f v ≡ false) → false ≡ any_below m f
  none_found h a = none_below m f (λ v l. a v (omega arith))

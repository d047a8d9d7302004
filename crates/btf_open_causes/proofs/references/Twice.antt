-- More numbers than values: one value comes twice. Assumes nothing.
use Prim.Native.Nat.{ℕ, zero, suc, ◌<◌, ◌≤◌}
use mathlib.Core.Path.{◌≡◌, refl, ap, ◌∙◌, sym}
use mathlib.Core.Logic.{⊎_elim, ◌⊎◌, inl, inr, ◌≢◌}
use native.Mathlib.Omega.{arith}
use native.Mathlib.Decide.{ℕ_discrete}

-- does f take the value v below n?
find : (n : ℕ) (f : ℕ → ℕ) (v : ℕ) → ((i : ℕ) × (i < n) × (f i ≡ v)) ⊎ ((i : ℕ) → i < n → f i ≡ v → ⊥)
find zero f v = inr (λ i h e. (omega arith))
find (suc n) f v = go (ℕ_discrete (f n) v) (find n f v)
  where
    go : Dec (f n ≡ v) → ((i : ℕ) × (i < n) × (f i ≡ v)) ⊎ ((i : ℕ) → i < n → f i ≡ v → ⊥)
        → ((i : ℕ) × (i < suc n) × (f i ≡ v)) ⊎ ((i : ℕ) → i < suc n → f i ≡ v → ⊥)
    go (yes e) r = inl (n, (omega arith), e)
    go (no e) (inl r) = inl (r.0, up r.0 r.1, r.2)
      where
        up : (i : ℕ) → i < n → i < suc n
        up i h = omega arith
    go (no e) (inr r) = inr here
      where
        here : (i : ℕ) → i < suc n → f i ≡ v → ⊥
        here i h q = elim (ℕ_discrete i n) [ yes p ↦ e (ap f (sym p) ∙ q) | no p ↦ r i (omega arith) q ]

-- more pigeons than holes
pub record Twice (f : ℕ → ℕ) (n : ℕ) : Type 0 where
  pub i : ℕ
  pub j : ℕ
  pub less : i < j
  pub last : j ≤ n
  pub same : f i ≡ f j

-- the value n moved to where f (suc n) is
moved : (ℕ → ℕ) → ℕ → ℕ → ℕ
moved f n i = elim (ℕ_discrete (f i) n) [ yes e ↦ f (suc n) | no e ↦ f i ]

moved_cases : (f : ℕ → ℕ) (n i : ℕ) → ((f i ≡ n) × (moved f n i ≡ f (suc n))) ⊎ ((f i ≡ n → ⊥) × (moved f n i ≡ f i))
unfolding moved
moved_cases f n i = go (ℕ_discrete (f i) n)
  where
    go : (r : Dec (f i ≡ n)) → ((f i ≡ n) × ((elim r as (λ z. ℕ) [ yes e ↦ f (suc n) | no e ↦ f i ]) ≡ f (suc n))) ⊎ ((f i ≡ n → ⊥) × ((elim r as (λ z. ℕ) [ yes e ↦ f (suc n) | no e ↦ f i ]) ≡ f i))
    go (yes e) = inl (e, refl)
    go (no e) = inr (e, refl)

pub twice : (n : ℕ) (f : ℕ → ℕ) → ((i : ℕ) → i ≤ n → f i < n) → Twice f n
twice zero f h = absurd (none (f 0) (h 0 (omega arith)))
  where
    none : (a : ℕ) → a < 0 → ⊥
    none a p = omega arith
twice (suc n) f h = go (find (suc n) f (f (suc n))) (twice n (moved f n))
  where
    go : ((i : ℕ) × (i < suc n) × (f i ≡ f (suc n))) ⊎ ((i : ℕ) → i < suc n → f i ≡ f (suc n) → ⊥)
        → (((i : ℕ) → i ≤ n → moved f n i < n) → Twice (moved f n) n) → Twice f (suc n)
    go (inl r) ih = record { i = r.0; j = suc n; less = r.1; last = omega arith; same = r.2 }
    go (inr no_hit) ih = back (ih small)
      where
        small : (i : ℕ) → i ≤ n → moved f n i < n
        small i p = ⊎_elim
            (λ q. let a : f (suc n) ≢ n = (λ e. no_hit i (omega arith) (q.0 ∙ sym e)) in rw q.1 (omega (arith, h (suc n) (omega arith))))
            (λ q. rw q.1 (omega (arith, h i (omega arith), q.0)))
            (moved_cases f n i)

        back : Twice (moved f n) n → Twice f (suc n)
        back t = record { i = t.i; j = t.j; less = t.less; last = omega (arith, t.last); same = same (moved_cases f n t.i) (moved_cases f n t.j) }
          where
            same : ((f t.i ≡ n) × (moved f n t.i ≡ f (suc n))) ⊎ ((f t.i ≡ n → ⊥) × (moved f n t.i ≡ f t.i))
                → ((f t.j ≡ n) × (moved f n t.j ≡ f (suc n))) ⊎ ((f t.j ≡ n → ⊥) × (moved f n t.j ≡ f t.j))
                → f t.i ≡ f t.j
            same (inl a) (inl b) = a.0 ∙ sym b.0
            same (inl a) (inr b) = absurd (no_hit t.j (omega (arith, t.last)) (sym b.1 ∙ sym t.same ∙ a.1))
            same (inr a) (inl b) = absurd (no_hit t.i (omega (arith, t.less, t.last)) (sym a.1 ∙ t.same ∙ b.1))
            same (inr a) (inr b) = sym a.1 ∙ t.same ∙ b.1

-- The new numbers: in old order, one for each type that is kept; and the type that has a number. Assumes nothing.
use Prim.Native.Nat.{ℕ, zero, suc, ◌+◌, ◌-◌, ◌<◌, ◌≤◌}
use native.Mathlib.Omega.{arith}
use native.Mathlib.Decide.{ℕ_discrete}
use mathlib.Core.Path.{◌≡◌, refl, sym, ◌∙◌, ap, subst}
use mathlib.Core.Bool.{Bool, true, false}
use mathlib.Core.List.{List, [], ◌∷◌}
use mathlib.Core.Logic.{◌⊎◌, inl, inr}
use lib.ListN.{length, get_or}
use lib.Dec.{ltb}
use borrow.Author.Tests.{ltb-true, ltb-false}
use Rattle.spec_linux_btf.specs.Documentation.{Described}
use Rattle.spec_cut.specs.section.Renumbered.{kept_to, new_id, kept_types, renamed, renamed_all}

lt_or : (i j : ℕ) → (i ≡ j → ⊥) → (i < j) ⊎ (j < i)
lt_or i j p = go (ltb i j) refl
  where
    go : (b : Bool) → ltb i j ≡ b → (i < j) ⊎ (j < i)
    go true e = inl (ltb-true i j e)
    go false e = inr (omega (arith, ltb-false i j e, p))

abbrev step : Bool → ℕ → ℕ
step true k = suc k
step false k = k

swap : (b c : Bool) (k : ℕ) → step b (step c k) ≡ step c (step b k)
swap true true k = refl
swap true false k = refl
swap false true k = refl
swap false false k = refl

-- how many of the j ids from x on are kept
abbrev among : (ℕ → Bool) → ℕ → ℕ → ℕ
among m x zero = 0
among m x (suc j) = step (m x) (among m (suc x) j)

module _ (m : ℕ → Bool) where
  kept_suc : (i : ℕ) → kept_to m (suc i) ≡ step (m (suc i)) (kept_to m i)
  unfolding kept_to
  kept_suc i = go (m (suc i))
    where
      go : (b : Bool) → ◌≡◌ {A = ℕ} (elim b [ true ↦ suc (kept_to m i) | false ↦ kept_to m i ]) (step b (kept_to m i))
      go true = refl
      go false = refl

  step_up : (b : Bool) (k : ℕ) → k ≤ step b k
  step_up true k = omega arith
  step_up false k = omega arith

  step_one : (b : Bool) (k : ℕ) → step b k ≤ suc k
  step_one true k = omega arith
  step_one false k = omega arith

  pub kept_le : (i : ℕ) → kept_to m i ≤ i
  unfolding kept_to
  kept_le zero = omega arith
  kept_le (suc i) = omega (arith, kept_suc i, step_one (m (suc i)) (kept_to m i), kept_le i)

  kept_mono : (k i : ℕ) → kept_to m i ≤ kept_to m (k + i)
  kept_mono zero i = subst (λ (j : ℕ). kept_to m i ≤ kept_to m j) {x = i} (omega arith) (omega arith)
  kept_mono (suc k) i =
      let e : suc k + i ≡ suc (k + i) = omega arith in
      subst (λ (j : ℕ). kept_to m i ≤ kept_to m j) (sym e) (omega (arith, kept_mono k i, kept_suc (k + i), step_up (m (suc (k + i))) (kept_to m (k + i))))

  pub kept_yes : (i : ℕ) → m (suc i) ≡ true → kept_to m (suc i) ≡ suc (kept_to m i)
  kept_yes i e = kept_suc i ∙ ap (λ (d : Bool). step d (kept_to m i)) e

  pub kept_no : (i : ℕ) → m (suc i) ≡ false → kept_to m (suc i) ≡ kept_to m i
  kept_no i e = kept_suc i ∙ ap (λ (d : Bool). step d (kept_to m i)) e

  pub kept_up : (i j : ℕ) → i ≤ j → kept_to m i ≤ kept_to m j
  kept_up i j l =
      let q : (j - i) + i ≡ j = omega (arith, l) in
      subst (λ (k : ℕ). kept_to m i ≤ kept_to m k) q (kept_mono (j - i) i)

  pub new_zero : new_id m 0 ≡ 0
  unfolding new_id
  new_zero = refl

  pub new_kept : (i : ℕ) → m (suc i) ≡ true → new_id m (suc i) ≡ suc (kept_to m i)
  unfolding new_id
  new_kept i e = ap (λ (b : Bool). elim b as (λ c. ℕ) [ true ↦ suc (kept_to m i) | false ↦ 0 ]) e

  pub new_dropped : (i : ℕ) → m (suc i) ≡ false → new_id m (suc i) ≡ 0
  unfolding new_id
  new_dropped i e = ap (λ (b : Bool). elim b as (λ c. ℕ) [ true ↦ suc (kept_to m i) | false ↦ 0 ]) e

  -- no number is above the old one
  pub new_le : (x : ℕ) → new_id m x ≤ x
  new_le zero = omega (arith, new_zero)
  new_le (suc i) = go (m (suc i)) refl
    where
      go : (b : Bool) → m (suc i) ≡ b → new_id m (suc i) ≤ suc i
      go true e = omega (arith, new_kept i e, kept_le i)
      go false e = omega (arith, new_dropped i e)

  -- "in old order"
  pub in_order : (i j : ℕ) → m (suc i) ≡ true → m (suc j) ≡ true → i < j → new_id m (suc i) < new_id m (suc j)
  in_order i j e f l =
      let a = kept_mono (j - suc i) (suc i) in
      let q : (j - suc i) + suc i ≡ j = omega (arith, l) in
      let b : kept_to m (suc i) ≤ kept_to m j = subst (λ (k : ℕ). kept_to m (suc i) ≤ kept_to m k) q a in
      let c : kept_to m (suc i) ≡ suc (kept_to m i) = kept_suc i ∙ ap (λ (d : Bool). step d (kept_to m i)) e in
      omega (arith, b, c, new_kept i e, new_kept j f)

  -- void, or kept
  pub data Stays : ℕ → Type 0 where
    is_void : Stays 0
    is_kept_lem : (i : ℕ) → m (suc i) ≡ true → Stays (suc i)

  pub new_one : (x y : ℕ) → Stays x → Stays y → new_id m x ≡ new_id m y → x ≡ y
  new_one x y is_void is_void q = refl
  new_one x y is_void (is_kept_lem j f) q = let k : ◌≡◌ {A = ℕ} 0 1 = omega (arith, q, new_zero, new_kept j f) in absurd (omega (arith, k))
  new_one x y (is_kept_lem i e) is_void q = let k : ◌≡◌ {A = ℕ} 0 1 = omega (arith, q, new_zero, new_kept i e) in absurd (omega (arith, k))
  new_one x y (is_kept_lem i e) (is_kept_lem j f) q = go (ℕ_discrete i j)
    where
      go : Dec (i ≡ j) → suc i ≡ suc j
      go (yes p) = ap suc p
      go (no p) = elim (lt_or i j p) [ inl l ↦ absurd (omega (arith, in_order i j e f l, q)) | inr l ↦ absurd (omega (arith, in_order j i f e l, q)) ]

  -- ---- the type with a number

  among_last : (x j : ℕ) → among m x (suc j) ≡ step (m (x + j)) (among m x j)
  among_last x zero = ap (λ (k : ℕ). step (m k) 0) (omega arith)
  among_last x (suc j) =
      let e : suc x + j ≡ x + suc j = omega arith in
      let r : among m (suc x) (suc j) ≡ step (m (x + suc j)) (among m (suc x) j) = among_last (suc x) j ∙ ap (λ (k : ℕ). step (m k) (among m (suc x) j)) e in
      ap (step (m x)) r ∙ swap (m x) (m (x + suc j)) (among m (suc x) j)

  among_kept : (j : ℕ) → among m 1 j ≡ kept_to m j
  unfolding kept_to
  among_kept zero = refl
  among_kept (suc j) = among_last 1 j ∙ ap (λ (k : ℕ). step (m k) (among m 1 j)) (omega arith) ∙ ap (step (m (suc j))) (among_kept j) ∙ sym (kept_suc j)

  types_at : (x j : ℕ) (ts : List Described) (d : Described) → j < length ts → m (x + j) ≡ true → get_or (kept_types m x ts) (among m x j) d ≡ get_or ts j d
  unfolding kept_types
  types_at x j [] d l e = absurd (omega (arith, l))
  types_at x zero (t ∷ ts) d l e =
      ap (λ (b : Bool). get_or (elim b as (λ c. List Described) [ true ↦ t ∷ kept_types m (suc x) ts | false ↦ kept_types m (suc x) ts ]) 0 d) (ap m (omega arith) ∙ e)
  types_at x (suc j) (t ∷ ts) d l e = go (m x) (types_at (suc x) j ts d (omega (arith, l)) (ap m (omega arith) ∙ e))
    where
      go : (b : Bool) → get_or (kept_types m (suc x) ts) (among m (suc x) j) d ≡ get_or ts j d → get_or (elim b as (λ c. List Described) [ true ↦ t ∷ kept_types m (suc x) ts | false ↦ kept_types m (suc x) ts ]) (step b (among m (suc x) j)) d ≡ get_or ts j d
      go true r = r
      go false r = r

  -- the types that are kept have the numbers 1, 2, .. in old order
  pub type_at : (i : ℕ) (ts : List Described) (d : Described) → i < length ts → m (suc i) ≡ true → get_or (kept_types m 1 ts) (kept_to m i) d ≡ get_or ts i d
  type_at i ts d l e = ap (λ (k : ℕ). get_or (kept_types m 1 ts) k d) (sym (among_kept i)) ∙ types_at 1 i ts d l (ap m (omega arith) ∙ e)

  types_length : (x : ℕ) (ts : List Described) → length (kept_types m x ts) ≡ among m x (length ts)
  unfolding kept_types
  types_length x [] = refl
  types_length x (t ∷ ts) = go (m x) (types_length (suc x) ts)
    where
      go : (b : Bool) → length (kept_types m (suc x) ts) ≡ among m (suc x) (length ts) → length {A = Described} (elim b as (λ c. List Described) [ true ↦ t ∷ kept_types m (suc x) ts | false ↦ kept_types m (suc x) ts ]) ≡ step b (among m (suc x) (length ts))
      go true r = ap suc r
      go false r = r

  pub kept_length : (ts : List Described) → length (kept_types m 1 ts) ≡ kept_to m (length ts)
  kept_length ts = types_length 1 ts ∙ among_kept (length ts)

  -- each number is below the new count
  pub new_below : (ts : List Described) (x : ℕ) → Stays x → x ≤ length ts → new_id m x < suc (length (kept_types m 1 ts))
  new_below ts x is_void l = omega (arith, new_zero)
  new_below ts x (is_kept_lem i e) l =
      let a = kept_mono (length ts - suc i) (suc i) in
      let q : (length ts - suc i) + suc i ≡ length ts = omega (arith, l) in
      let b : kept_to m (suc i) ≤ kept_to m (length ts) = subst (λ (k : ℕ). kept_to m (suc i) ≤ kept_to m k) q a in
      let c : kept_to m (suc i) ≡ suc (kept_to m i) = kept_suc i ∙ ap (λ (d : Bool). step d (kept_to m i)) e in
      omega (arith, b, c, new_kept i e, kept_length ts)

pub renamed_at : (i o : ℕ → ℕ) (k : ℕ) (ts : List Described) (d e : Described) → k < length ts → get_or (renamed_all i o ts) k e ≡ renamed i o (get_or ts k d)
renamed_at i o k [] d e l = absurd (omega (arith, l))
renamed_at i o zero (t ∷ ts) d e l = refl
renamed_at i o (suc k) (t ∷ ts) d e l = renamed_at i o k ts d e (omega (arith, l))

pub renamed_length : (i o : ℕ → ℕ) (ts : List Described) → length (renamed_all i o ts) ≡ length ts
renamed_length i o [] = refl
renamed_length i o (t ∷ ts) = ap suc (renamed_length i o ts)

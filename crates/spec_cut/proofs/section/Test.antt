-- The test tells exactly which ids are kept. Assumes nothing.
use Prim.Native.Nat.{ℕ, zero, suc, ◌<◌, ◌≤◌}
use native.Mathlib.Omega.{arith}
use native.Mathlib.Decide.{ℕ_discrete}
use mathlib.Core.Path.{◌≡◌, refl, sym, ap, subst}
use mathlib.Core.Bool.{Bool, true, false, not, ◌&&◌, ◌||◌, true≢false}
use mathlib.Core.List.Memᴰ
use mathlib.Core.List.{List, [], ◌∷◌, Memᴰ}
use mathlib.Core.Logic.{◌⊎◌, inl, inr}
use lib.ListN.{length, get_or}
use lib.Dec.{eqb}
use borrow.Author.Tests.{eqb-true, eq-eqb, ne_eqb, eqb-false, not-true}
use Rattle.std.proofs.lemmas.Bool.{and_parts, and_from, or_left, or_right, or_cases, cases_lt}
use Rattle.std.proofs.lemmas.List.{get_or_past}
use Rattle.spec_linux_btf.specs.Documentation.{Described}
use Rattle.spec_cut.specs.section.Kept.{followed_ids, void_type, type_of, Reached, asked, onward, is_decl_tag, third, Kept, reached, its_tag, Tells}
use Rattle.spec_cut.specs.section.Test.{is_in, leads, reached_by, follows, is_reached, is_its_tag, is_kept}

pub is_in_lem : (y : ℕ) (xs : List ℕ) → is_in y xs ≡ true → Memᴰ y xs
unfolding is_in
is_in_lem y [] h = absurd (true≢false (sym h))
is_in_lem y (x ∷ xs) h = go (or_cases (eqb x y) (is_in y xs) h) (is_in_lem y xs)
  where
    go : (eqb x y ≡ true) ⊎ (is_in y xs ≡ true) → (is_in y xs ≡ true → Memᴰ y xs) → Memᴰ y (x ∷ xs)
    go (inl e) r = Memᴰ.head (sym (eqb-true x y e))
    go (inr e) r = Memᴰ.tail (r e)

pub in_is : (y : ℕ) (xs : List ℕ) → Memᴰ y xs → is_in y xs ≡ true
unfolding is_in
in_is y [] h = absurd (Memᴰ.not-nil h)
in_is y (x ∷ xs) (Memᴰ.head e) = or_left (eqb x y) (is_in y xs) (eq-eqb x y (sym e))
in_is y (x ∷ xs) (Memᴰ.tail h) = or_right (eqb x y) (is_in y xs) (in_is y xs h)

-- ---- leads: references one after the other

module _ (E : ℕ → ℕ → Bool) where
  more : (k x y : ℕ) → leads E k x y ≡ true → leads E (suc k) x y ≡ true
  unfolding leads
  more k x y h = or_left (leads E k x y) _ h

  by_way : (k x y : ℕ) → leads E k x (suc k) ≡ true → leads E k (suc k) y ≡ true → leads E (suc k) x y ≡ true
  unfolding leads
  by_way k x y h g = or_right (leads E k x y) _ (and_from (leads E k x (suc k)) (leads E k (suc k) y) h g)

  split : (k x y : ℕ) → leads E (suc k) x y ≡ true → (leads E k x y ≡ true) ⊎ ((leads E k x (suc k) ≡ true) × (leads E k (suc k) y ≡ true))
  unfolding leads
  split k x y h = go (or_cases (leads E k x y) _ h)
    where
      go : (leads E k x y ≡ true) ⊎ ((leads E k x (suc k) && leads E k (suc k) y) ≡ true) → (leads E k x y ≡ true) ⊎ ((leads E k x (suc k) ≡ true) × (leads E k (suc k) y ≡ true))
      go (inl e) = inl e
      go (inr e) = inr (and_parts (leads E k x (suc k)) (leads E k (suc k) y) e)

  -- a reference leads
  one_leads : (k x y : ℕ) → E x y ≡ true → leads E k x y ≡ true
  unfolding leads
  one_leads zero x y h = h
  one_leads (suc k) x y h = more k x y (one_leads k x y h)

  to_last : (k x : ℕ) → leads E (suc k) x (suc k) ≡ true → leads E k x (suc k) ≡ true
  to_last k x h = go (split k x (suc k) h)
    where
      go : (leads E k x (suc k) ≡ true) ⊎ ((leads E k x (suc k) ≡ true) × (leads E k (suc k) (suc k) ≡ true)) → leads E k x (suc k) ≡ true
      go (inl e) = e
      go (inr e) = e.0

  from_last : (k y : ℕ) → leads E (suc k) (suc k) y ≡ true → leads E k (suc k) y ≡ true
  from_last k y h = go (split k (suc k) y h)
    where
      go : (leads E k (suc k) y ≡ true) ⊎ ((leads E k (suc k) (suc k) ≡ true) × (leads E k (suc k) y ≡ true)) → leads E k (suc k) y ≡ true
      go (inl e) = e
      go (inr e) = e.1

  -- two ways joined at a type with an id from 1 to k are one
  pub joined : (k x z y : ℕ) → 1 ≤ z → z ≤ k → leads E k x z ≡ true → leads E k z y ≡ true → leads E k x y ≡ true
  joined zero x z y a l h g = absurd (omega (arith, a, l))
  joined (suc k) x z y a l h g = go (ℕ_discrete z (suc k)) (λ u v q p r. joined k u z v a q p r)
    where
      go : Dec (z ≡ suc k) → ((u v : ℕ) → z ≤ k → leads E k u z ≡ true → leads E k z v ≡ true → leads E k u v ≡ true) → leads E (suc k) x y ≡ true
      go (yes e) rec =
          by_way k x y (to_last k x (subst (λ (w : ℕ). leads E (suc k) x w ≡ true) e h)) (from_last k y (subst (λ (w : ℕ). leads E (suc k) w y ≡ true) e g))
      go (no e) rec = by (split k x z h) (split k z y g)
        where
          q : z ≤ k
          q = omega (arith, l, e)

          by : (leads E k x z ≡ true) ⊎ ((leads E k x (suc k) ≡ true) × (leads E k (suc k) z ≡ true))
              → (leads E k z y ≡ true) ⊎ ((leads E k z (suc k) ≡ true) × (leads E k (suc k) y ≡ true)) → leads E (suc k) x y ≡ true
          by (inl u) (inl v) = more k x y (rec x y q u v)
          by (inl u) (inr v) = by_way k x y (rec x (suc k) q u v.0) v.1
          by (inr u) (inl v) = by_way k x y u.0 (rec (suc k) y q u.1 v)
          by (inr u) (inr v) = by_way k x y u.0 v.1

-- ---- reached

module _ (E : ℕ → ℕ → Bool) (n : ℕ) where
  -- what was reached by the test, and a reference from it: a type that follows something has an id from 1 to n
  pub reached_on : ((x y : ℕ) → E x y ≡ true → (1 ≤ x) × (x ≤ n)) → (gs : List ℕ) (x y : ℕ) → reached_by E n gs x ≡ true → E x y ≡ true → reached_by E n gs y ≡ true
  unfolding reached_by
  reached_on inside [] x y h e = absurd (true≢false (sym h))
  reached_on inside (g ∷ gs) x y h e = go (or_cases (eqb g x || leads E n g x) (reached_by E n gs x) h) (λ r. reached_on inside gs x y r e)
    where
      go : ((eqb g x || leads E n g x) ≡ true) ⊎ (reached_by E n gs x ≡ true) → (reached_by E n gs x ≡ true → reached_by E n gs y ≡ true) → ((eqb g y || leads E n g y) || reached_by E n gs y) ≡ true
      go (inr r) rec = or_right (eqb g y || leads E n g y) (reached_by E n gs y) (rec r)
      go (inl r) rec = or_left (eqb g y || leads E n g y) (reached_by E n gs y) (or_right (eqb g y) (leads E n g y) (by (or_cases (eqb g x) (leads E n g x) r)))
        where
          by : (eqb g x ≡ true) ⊎ (leads E n g x ≡ true) → leads E n g y ≡ true
          by (inl q) = one_leads E n g y (subst (λ (w : ℕ). E w y ≡ true) (sym (eqb-true g x q)) e)
          by (inr q) = joined E n g x y (inside x y e).0 (inside x y e).1 q (one_leads E n x y e)

  pub given_reached : (gs : List ℕ) (x : ℕ) → Memᴰ x gs → reached_by E n gs x ≡ true
  unfolding reached_by
  given_reached [] x h = absurd (Memᴰ.not-nil h)
  given_reached (g ∷ gs) x (Memᴰ.head e) = or_left (eqb g x || leads E n g x) (reached_by E n gs x) (or_left (eqb g x) (leads E n g x) (eq-eqb g x (sym e)))
  given_reached (g ∷ gs) x (Memᴰ.tail h) = or_right (eqb g x || leads E n g x) (reached_by E n gs x) (given_reached gs x h)

  -- all that holds of the given ids, and passes on along references, holds of what is reached
  module _ (P : ℕ → Type 0) (step : (x y : ℕ) → P x → E x y ≡ true → P y) where
    leads_all : (k x y : ℕ) → P x → leads E k x y ≡ true → P y
    unfolding leads
    leads_all zero x y p h = step x y p h
    leads_all (suc k) x y p h = go (split E k x y h) (leads_all k x y p) (λ q. leads_all k (suc k) y (leads_all k x (suc k) p q))
      where
        go : (leads E k x y ≡ true) ⊎ ((leads E k x (suc k) ≡ true) × (leads E k (suc k) y ≡ true)) → (leads E k x y ≡ true → P y) → (leads E k x (suc k) ≡ true → leads E k (suc k) y ≡ true → P y) → P y
        go (inl q) a b = a q
        go (inr q) a b = b q.0 q.1

    pub reached_all : (gs : List ℕ) → ((g : ℕ) → Memᴰ g gs → P g) → (y : ℕ) → reached_by E n gs y ≡ true → P y
    unfolding reached_by
    reached_all [] a y h = absurd (true≢false (sym h))
    reached_all (g ∷ gs) a y h = go (or_cases (eqb g y || leads E n g y) (reached_by E n gs y) h) (reached_all gs (λ x m. a x (Memᴰ.tail m)) y)
      where
        go : ((eqb g y || leads E n g y) ≡ true) ⊎ (reached_by E n gs y ≡ true) → (reached_by E n gs y ≡ true → P y) → P y
        go (inr r) rec = rec r
        go (inl r) rec = by (or_cases (eqb g y) (leads E n g y) r)
          where
            by : (eqb g y ≡ true) ⊎ (leads E n g y ≡ true) → P y
            by (inl q) = subst P (eqb-true g y q) (a g (Memᴰ.head refl))
            by (inr q) = leads_all n g y (a g (Memᴰ.head refl)) q

module _ (ts : List Described) (given : List ℕ) where
  -- a type that follows something is in the table
  in_table : (x y : ℕ) → follows ts x y ≡ true → (1 ≤ x) × (x ≤ length ts)
  unfolding follows
  in_table zero y h = absurd (Memᴰ.not-nil (is_in_lem y [] h))
  in_table (suc i) y h = (omega arith, go (cases_lt i (length ts)))
    where
      go : (i < length ts) ⊎ (length ts ≤ i) → suc i ≤ length ts
      go (inl q) = q
      go (inr q) = absurd (Memᴰ.not-nil (subst (λ (t : Described). Memᴰ y (followed_ids t)) (get_or_past ts i void_type q) (is_in_lem y (followed_ids (get_or ts i void_type)) h)))

  pub tests_reached : (x : ℕ) → is_reached ts given x ≡ true → Reached ts given x
  unfolding is_reached follows
  tests_reached x h =
      reached_all (follows ts) (length ts) (Reached ts given) (λ u v r e. onward r (is_in_lem v (followed_ids (type_of ts u)) e)) given (λ g m. asked m) x h

  pub reached_tests : {x : ℕ} → Reached ts given x → is_reached ts given x ≡ true
  unfolding is_reached follows
  reached_tests (asked {x = x} m) = given_reached (follows ts) (length ts) given x m
  reached_tests (onward {x = x} {y = y} r m) = reached_on (follows ts) (length ts) in_table given x y (reached_tests r) (in_is y (followed_ids (type_of ts x)) m)

  tests_kept : (x : ℕ) → is_kept ts given x ≡ true → Kept ts given x
  unfolding is_kept is_its_tag
  tests_kept x h = go (or_cases (is_reached ts given x) _ h)
    where
      go : (is_reached ts given x ≡ true) ⊎ (is_its_tag ts given x ≡ true) → Kept ts given x
      go (inl r) = reached (tests_reached x r)
      go (inr r) =
          let a = and_parts (is_decl_tag (type_of ts x)) _ r in
          let b = and_parts (is_reached ts given (third (type_of ts x))) _ a.1 in
          let c = and_parts (not (eqb (third (type_of ts x)) 0)) _ b.1 in
          its_tag a.0 (tests_reached (third (type_of ts x)) b.0) (eqb-false (third (type_of ts x)) 0 (not-true (eqb (third (type_of ts x)) 0) c.0)) (not-true (is_decl_tag (type_of ts (third (type_of ts x)))) c.1)

  kept_tests : (x : ℕ) → Kept ts given x → is_kept ts given x ≡ true
  unfolding is_kept is_its_tag
  kept_tests x (reached r) = or_left (is_reached ts given x) _ (reached_tests r)
  kept_tests x (its_tag t r nz nt) =
      or_right (is_reached ts given x) _
      (and_from (is_decl_tag (type_of ts x)) _ t
      (and_from (is_reached ts given (third (type_of ts x))) _ (reached_tests r)
      (and_from (not (eqb (third (type_of ts x)) 0)) _ (ap not (ne_eqb (third (type_of ts x)) 0 nz)) (ap not nt))))

  -- THE THEOREM
  pub kept_tells : Tells ts given (is_kept ts given)
  kept_tells x = (tests_kept x, kept_tests x)

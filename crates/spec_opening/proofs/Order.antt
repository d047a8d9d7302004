-- The order of the causes: the number is 0 where none holds, and else that of the first that does. Assumes nothing.
use Prim.Native.Nat.{ℕ, zero, suc}
use mathlib.Core.Path.{◌≡◌, refl, ap, sym}
use mathlib.Core.Bool.{Bool, true, false, true≢false}
use mathlib.Core.List.{List, [], ◌∷◌, ◌++◌}
use mathlib.Core.Logic.{◌↔◌}
use native.Mathlib.Omega.{arith}
use Rattle.spec_opening.specs.Causes.{next, first_of, causes, opening_number}

-- none of a list holds
abbrev pub NoneHolds : List Bool → Type 0
NoneHolds [] = Unit {0}
NoneHolds (t ∷ l) = (t ≡ false) × NoneHolds l

-- the k-th, counted from 0, holds, and none before it
abbrev pub FirstHolds : List Bool → ℕ → Type 0
FirstHolds [] k = ⊥
FirstHolds (t ∷ l) zero = t ≡ true
FirstHolds (t ∷ l) (suc k) = (t ≡ false) × FirstHolds l k

pub next_zero : (n : ℕ) → next n ≡ 0 → n ≡ 0
next_zero zero e = refl
next_zero (suc n) e = absurd (omega arith)

next_suc : (n k : ℕ) → next n ≡ suc (suc k) → n ≡ suc k
next_suc zero k e = absurd (omega arith)
next_suc (suc n) k e = omega arith

next_one : (n : ℕ) → next n ≡ 1 → ⊥
next_one zero e = absurd (omega arith)
next_one (suc n) e = absurd (omega arith)

pub none_first : (l : List Bool) → NoneHolds l → first_of l ≡ 0
unfolding first_of
none_first [] h = refl
none_first (true ∷ l) h = absurd (true≢false h.0)
none_first (false ∷ l) h = ap next (none_first l h.1)

pub first_none : (l : List Bool) → first_of l ≡ 0 → NoneHolds l
unfolding first_of
first_none [] e = tt
first_none (true ∷ l) e = absurd (omega arith)
first_none (false ∷ l) e = (refl, first_none l (next_zero (first_of l) e))

pub holds_first : (l : List Bool) (k : ℕ) → FirstHolds l k → first_of l ≡ suc k
unfolding first_of
holds_first [] k h = absurd h
holds_first (true ∷ l) zero h = refl
holds_first (false ∷ l) zero h = absurd (true≢false (sym h))
holds_first (true ∷ l) (suc k) h = absurd (true≢false h.0)
holds_first (false ∷ l) (suc k) h = ap next (holds_first l k h.1)

pub first_holds : (l : List Bool) (k : ℕ) → first_of l ≡ suc k → FirstHolds l k
unfolding first_of
first_holds [] k e = absurd (omega arith)
first_holds (true ∷ l) zero e = refl
first_holds (true ∷ l) (suc k) e = absurd (omega arith)
first_holds (false ∷ l) zero e = absurd (next_one (first_of l) e)
first_holds (false ∷ l) (suc k) e = (refl, first_holds l k (next_suc (first_of l) k e))

-- THE LEMMAS: number 0 if and only if no cause holds, and number k + 1 if and only if the k-th is the first that holds
module _ (pointer : ℕ) (s : List ℕ) (work : ℕ) where
  pub sound_none : (opening_number pointer s work ≡ 0) ↔ NoneHolds (causes pointer s work)
  unfolding opening_number
  sound_none = (first_none (causes pointer s work), none_first (causes pointer s work))

  pub refused_first : (k : ℕ) → (opening_number pointer s work ≡ suc k) ↔ FirstHolds (causes pointer s work) k
  unfolding opening_number
  refused_first k = (first_holds (causes pointer s work) k, holds_first (causes pointer s work) k)

-- ---- the causes tested together
pub nexts : (l : List Bool) (m : List Bool) → NoneHolds l → first_of (l ++ m) ≡ first_of l → first_of m ≡ 0
unfolding first_of
nexts [] m h e = e
nexts (true ∷ l) m h e = absurd (true≢false h.0)
nexts (false ∷ l) m h e = nexts l m h.1 (low (first_of (l ++ m)) (first_of l) (none_first l h.1) e)
  where
    low : (a b : ℕ) → b ≡ 0 → next a ≡ next b → a ≡ b
    low zero zero z f = refl
    low zero (suc b) z f = absurd (omega arith)
    low (suc a) zero z f = absurd (omega arith)
    low (suc a) (suc b) z f = omega arith

-- a cause among the first ones is that of all
pub first_stays : (l m : List Bool) → (first_of l ≡ 0 → ⊥) → first_of (l ++ m) ≡ first_of l
unfolding first_of
first_stays [] m h = absurd (h refl)
first_stays (true ∷ l) m h = refl
first_stays (false ∷ l) m h = ap next (first_stays l m (λ e. h (ap next e)))

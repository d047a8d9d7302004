-- Lists of words: how many are zero, and what a change of one word keeps. Assumes nothing.
use Prim.Native.Nat.{ℕ, zero, suc, ◌+◌, ◌<◌, ◌≤◌}
use mathlib.Core.Path.{◌≡◌, refl, ap, sym, subst}
use mathlib.Core.List.{List, [], ◌∷◌}
use mathlib.Core.Logic.{◌≢◌}
use native.Mathlib.Omega.{arith}
use native.Mathlib.Decide.{ℕ_discrete}
use lib.ListN.{length, get_or, set, replicate}
use lib.Seq.{get_or-set_same, get_or-set_other}
use Rattle.std.specs.List.{sum_by}
use Rattle.std.proofs.lemmas.List.Sums.{sum_by-cons, sum_by-set}
use Rattle.btf_open_causes.specs.references.Zeros.{is_zero, zeros}

is_zero_pos : (n : ℕ) → 0 < n → is_zero n ≡ 0
is_zero_pos zero h = absurd (omega arith)
is_zero_pos (suc n) h = refl

pub zeros_same : (l : List ℕ) (i v : ℕ) → i < length l → 0 < get_or l i 0 → 0 < v → zeros (set l i v) ≡ zeros l
unfolding zeros
zeros_same l i v h a b = omega (arith, sum_by-set is_zero l i v 0 h, is_zero_pos (get_or l i 0) a, is_zero_pos v b)

pub zeros_less : (l : List ℕ) (i v : ℕ) → i < length l → get_or l i 0 ≡ 0 → 0 < v → zeros (set l i v) + 1 ≡ zeros l
unfolding zeros
zeros_less l i v h a b = omega (arith, sum_by-set is_zero l i v 0 h, ap is_zero a, is_zero_pos v b)

pub sum_max : {X : Type 0} (f : X → ℕ) → ((x : X) → f x ≤ 1) → (l : List X) → sum_by f l ≤ length l
sum_max f h [] = omega arith
sum_max f h (a ∷ l) = omega (arith, sum_by-cons f a l, h a, sum_max f h l)

pub zeros_max : (l : List ℕ) → zeros l ≤ length l
unfolding zeros
zeros_max = sum_max is_zero one
  where
    one : (a : ℕ) → is_zero a ≤ 1
    one zero = omega arith
    one (suc a) = omega arith

-- what holds of each element, and of the new one
pub each_at : {X : Type 0} (d : X) (P : ℕ → X → Type 0) (l : List X) (i : ℕ) (w : X) → i < length l → ((v : ℕ) → v ≢ i → P v (get_or l v d)) → P i w
    → (v : ℕ) → P v (get_or (set l i w) v d)
each_at d P l i w h a b v =
    elim (ℕ_discrete v i) [
      | yes e ↦ subst (λ (z : ℕ). P z (get_or (set l i w) z d)) (sym e) (subst (P i) (sym (get_or-set_same l i w d h)) b)
      | no n ↦ subst (P v) (sym (get_or-set_other l i v w d n)) (a v n)
    ]

pub each_set : (P : ℕ → ℕ → Type 0) (l : List ℕ) (i w : ℕ) → i < length l → ((v : ℕ) → v ≢ i → P v (get_or l v 0)) → P i w → (v : ℕ) → P v (get_or (set l i w) v 0)
each_set = each_at 0

abbrev pub nothing : ℕ → List ℕ
nothing n = replicate n 0

pub length_replicate : (n : ℕ) → length (nothing n) ≡ n
length_replicate zero = refl
length_replicate (suc n) = ap suc (length_replicate n)

pub get_d_zeros : (n i : ℕ) → get_or (nothing n) i 0 ≡ 0
get_d_zeros zero i = refl
get_d_zeros (suc n) zero = refl
get_d_zeros (suc n) (suc i) = get_d_zeros n i

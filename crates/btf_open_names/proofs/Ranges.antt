-- What `all` over the numbers below n answered. Assumes nothing.
use Prim.Native.Nat.{ℕ, ◌+◌, ◌<◌}
use mathlib.Core.Path.{◌≡◌, refl}
use mathlib.Core.Bool.{Bool, true, false}
use native.Mathlib.Omega.{arith}
use lib.ListN.{length}
use Rattle.std.proofs.Common.{MatchBool, Decides, HoldsAt}
use Rattle.std.specs.List.{AllWithin, range_with_len}
use Rattle.std.proofs.lemmas.List.FromFn.{length-range_with_len, get_or-range_with_len}

module _ (P : ℕ → Type 0) (n : ℕ) where
  -- as `cases_from_all` has it
  abbrev pub Asked : Bool → Type 0
  Asked r = MatchBool r (AllWithin P (range_with_len 0 n) 0 (length (range_with_len 0 n)))
      ((k : ℕ) × (k < length (range_with_len 0 n)) × HoldsAt (λ k. P k → ⊥) (range_with_len 0 n) k)

  pub below : (r : Bool) → Asked r → MatchBool r ((k : ℕ) → k < n → P k) ((k : ℕ) × (k < n) × (P k → ⊥))
  below true h = λ k l. let q : 0 + k ≡ k = omega arith in rw (get_or-range_with_len 0 n k 0 l, q) at (h k 0 (omega arith) (rw (length-range_with_len 0 n) l))
  below false h =
      let l : h.0 < n = rw (length-range_with_len 0 n) at h.1 in
      let q : 0 + h.0 ≡ h.0 = omega arith in
      (h.0, l, λ z. h.2 0 (rw (get_or-range_with_len 0 n h.0 0 l, q) z))

  pub decided : (r : Bool) → Asked r → Decides r ((k : ℕ) → k < n → P k)
  decided true h = (λ e. below true h, λ f. refl)
  decided false h = let no = below false h in (λ e. absurd (cc), λ f. absurd (no.2 (f no.0 no.1)))

-- Numbers of suffixes as Options. Assumes nothing.
use Prim.Native.Nat.{ℕ, zero, suc}
use mathlib.Core.Path.{◌≡◌, refl, ap}
use native.Mathlib.Omega.{arith}
use Rattle.std.proofs.Common.{None, Some}
use Rattle.btf_open_names.specs.suffixes.Found.{unless_zero}

pub unless_none : (n : ℕ) → 0 ≡ n → None ≡ unless_zero n
unfolding unless_zero
unless_none n e = ap unless_zero e

pub unless_some : (v n : ℕ) → (v ≡ 0 → ⊥) → v ≡ n → Some v ≡ unless_zero n
unfolding unless_zero
unless_some zero n z e = absurd (z refl)
unless_some (suc v) n z e = ap unless_zero e

pub none_zero : (n : ℕ) → None ≡ unless_zero n → n ≡ 0
unfolding unless_zero
none_zero zero e = refl
none_zero (suc n) e = absurd (cc)

pub some_number : (n v : ℕ) → Some v ≡ unless_zero n → (v ≡ n) × (v ≡ 0 → ⊥)
unfolding unless_zero
some_number zero v e = absurd (cc)
some_number (suc n) v e = let q : v ≡ suc n = cc in (q, λ z. omega arith)

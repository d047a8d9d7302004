-- A number in decimal, as Rust's `{}` prints it. That these digits read back to the number, with no zero in front, is
-- proved in proofs/Digits.antt.
use Rattle.std.specs.Prelude.{ℕ, zero, suc, ◌+◌, ◌/◌, ◌%◌, List, [], ◌∷◌, ◌++◌, true, false, ltb}

-- the digits of n, at most as many as the first number says: below ten one digit, else those of n / 10 and then n % 10
unfoldable pub digits : ℕ → ℕ → List ℕ
digits zero n = []
digits (suc f) n = elim (ltb n 10) [ true ↦ (48 + n) ∷ [] | false ↦ digits f (n / 10) ++ (48 + n % 10) ∷ [] ]

-- the digits of a number of 64 bits, which has at most 20
unfoldable pub decimal : ℕ → List ℕ
decimal n = digits 20 n

-- How many words of a list are zero: what a walk that marks its nodes has still before it.
use Rattle.std.specs.Prelude.{ℕ, zero, suc, List, sum_by}

abbrev pub is_zero : ℕ → ℕ
is_zero zero = 1
is_zero (suc n) = 0

unfoldable pub zeros : List ℕ → ℕ
zeros l = sum_by is_zero l

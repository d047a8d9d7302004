-- Numbers as the functions of suffixes hand them out.
use Rattle.std.specs.Prelude.{ℕ, zero, suc, Option, None, Some}

-- where 0 is none
unfoldable pub unless_zero : ℕ → Option ℕ
unless_zero zero = None
unless_zero (suc n) = Some (suc n)

-- Is there a number below n of which f is true?
use Rattle.std.specs.Prelude.{ℕ, zero, suc, Bool, true, false}

unfoldable pub any_below : ℕ → (ℕ → Bool) → Bool
any_below zero f = false
any_below (suc n) f = elim (f n) [ true ↦ true | false ↦ any_below n f ]

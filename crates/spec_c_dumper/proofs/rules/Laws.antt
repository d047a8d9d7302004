-- The smaller of two numbers.
use Prim.Native.Nat.{ℕ, ◌≤◌, ◌<◌}
use mathlib.Core.Path.{◌≡◌}
use borrow.Author.Tests.{le-leb, lt-leb}
use Rattle.spec_c_dumper.specs.rules.Layout.{smaller}

module _ (x y : ℕ) where
  pub smaller_first : x ≤ y → x ≡ smaller x y
  unfolding smaller
  smaller_first h = rw (le-leb x y h, smaller)

  pub smaller_second : y < x → y ≡ smaller x y
  unfolding smaller
  smaller_second h = rw (lt-leb x y h, smaller)

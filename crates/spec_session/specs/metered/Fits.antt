-- "A request that fits under one ceiling gives the same text and count under every larger one": what is claimed of a call under c.
use Rattle.std.specs.Prelude.{ℕ, ◌≤◌, ◌≡◌}
use Rattle.spec_session.specs.session.Turns.{Call}
use Rattle.spec_session.specs.metered.Within.{CallWithin}

-- the plain call, with a count that c allows; and both are the same under every larger ceiling
pub record FitsCeiling (c : ℕ) (plainly : Call) (under : ℕ → CallWithin) : Type 0 where
  pub same_call : (under c).call ≡ plainly
  pub at_most : (under c).made ≤ c
  pub larger : (c' : ℕ) → c ≤ c' → under c' ≡ under c

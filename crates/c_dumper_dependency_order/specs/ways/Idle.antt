-- One more call: "22 when one more call would pass the ceiling". A request that has nothing to do opens one.
use Rattle.std.specs.Prelude.{ℕ, ◌+◌, true, false, leb, Option, Some, None, Result, Ok, Err}
use Rattle.spec_bytes.specs.declared.refusal.Refusal.{Refusal}
use Rattle.spec_bytes.specs.declared.refusal.Refusal.TheVariants.{CeilingPassed}

-- the calls made after it, where k were made before it, under the ceiling c
unfoldable pub idle_in : ℕ → ℕ → Result ℕ Refusal
idle_in k c = elim (leb c k) [ true ↦ Err CeilingPassed | false ↦ Ok (k + 1) ]

-- the same where there may be no ceiling: then no call is counted
unfoldable pub counted : Option ℕ → ℕ → Result ℕ Refusal
counted None k = Ok k
counted (Some c) k = idle_in k c

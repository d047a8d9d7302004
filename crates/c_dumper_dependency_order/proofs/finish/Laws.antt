-- The length of the order list, with one more. Assumes nothing.
use Prim.Native.Nat.{ℕ, ◌+◌, ◌<◌}
use mathlib.Core.Path.{◌≡◌}
use mathlib.Core.Logic.{⊎_elim}
use native.Mathlib.Omega.{arith}
use borrow.Author.Tests.{lt-ltb, le-ltb}
use Rattle.std.proofs.lemmas.Bool.{cases_lt}
use Rattle.std.specs.Prelude.{min}
use Rattle.spec_bytes.specs.words.Words.{one_more}

pub saturated : (n : ℕ) → n < 4294967296 → min (n + 1) 4294967295 ≡ one_more n
unfolding one_more
saturated n h = ⊎_elim (λ l. rw (lt-ltb n 4294967295 l) (omega arith)) (λ l. rw (le-ltb n 4294967295 l) (omega arith)) (cases_lt n 4294967295)

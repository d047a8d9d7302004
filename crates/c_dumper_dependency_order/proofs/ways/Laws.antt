-- A request that has nothing to do, by whether a call is left. Assumes nothing.
use Prim.Native.Nat.{ℕ, ◌+◌, ◌<◌, ◌≤◌}
use mathlib.Core.Path.{◌≡◌}
use Rattle.std.specs.Prelude.{Ok, Err}
use Rattle.spec_bytes.specs.declared.refusal.Refusal.TheVariants.{CeilingPassed}
use borrow.Author.Tests.{le-leb, lt-leb}
use Rattle.c_dumper_dependency_order.specs.ways.Idle.{idle_in}

pub idle_none : (k c : ℕ) → c ≤ k → Err CeilingPassed ≡ idle_in k c
unfolding idle_in
idle_none k c l = rw (le-leb c k l, idle_in)

pub idle_one : (k c : ℕ) → k < c → Ok (k + 1) ≡ idle_in k c
unfolding idle_in
idle_one k c l = rw (lt-leb c k l, idle_in)

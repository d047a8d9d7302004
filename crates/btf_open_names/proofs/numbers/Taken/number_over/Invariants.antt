use Rattle.btf_open_names.proofs.numbers.Numbers.{Nears}
use Rattle.spec_type_table.specs.Numbers.{capped, below, taken_at}
use mathlib.Core.Path.{◌≡◌}
use Prim.Native.Nat.{◌≤◌, ◌+◌, ◌-◌}
use Rattle.btf_open_names.proofs.numbers.Taken.number_over.Given as goal

abbrev pub invariant-loop-n : goal.invariant-loop-n
invariant-loop-n l = (l.n ≤ 4294967295) × (l.m ≤ 4294967295) × (l.m ≡ capped (l.k + below (taken_at l.self.types l.self.work.now l.self.class) l.n)) × Nears (taken_at l.self.types l.self.work.now l.self.class) l.k l.n

abbrev pub decreases-loop-n : goal.decreases-loop-n
decreases-loop-n l = 4294967295 - l.n

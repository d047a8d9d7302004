use Rattle.btf_open_names.proofs.numbers.Lists.{Walked}
use Prim.Native.Nat.{◌<◌, ◌-◌}
use Rattle.btf_open_names.proofs.numbers.Taken.count_below.Given as goal

abbrev pub invariant-loop-last : goal.invariant-loop-last
invariant-loop-last l = (l.x < 4294967296) × (l.last < 4294967296) × Walked l.self.types l.self.work.now l.self.class l.n l.c l.last l.x

abbrev pub decreases-loop-last : goal.decreases-loop-last
decreases-loop-last l = 4294967296 - l.last

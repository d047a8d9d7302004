use mathlib.Core.Path.{◌≡◌}
use lib.Seq.{paste}
use Rattle.base_bytes.proofs.put.bytes.copy.Given as goal

abbrev pub invariant-loop-k : goal.invariant-loop-k
invariant-loop-k l = l.text ≡ paste l.initial.text l.at l.src l.k

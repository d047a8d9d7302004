use Rattle.btf_open_names.specs.filled_work.Left.{values_put}
use lib.ListN.{length}
use mathlib.Core.Path.{◌≡◌}
use Prim.Native.Nat.{◌%◌, ◌/◌}
use Rattle.btf_open_names.proofs.fill.fill_values.Given as goal

abbrev pub invariant-loop-k : goal.invariant-loop-k
invariant-loop-k l = (l.work ≡ values_put l.types (l.fn.e.word % 32) (l.fn.e.word / 32) l.first l.initial.work l.k) × (length l.work ≡ length l.initial.work)

use Rattle.spec_session.specs.emission.Slices.{emptied}
use mathlib.Core.Path.{◌≡◌}
use Rattle.c_dumper_emit.proofs.order_list.clear_list.Given as goal

abbrev pub invariant-loop-k : goal.invariant-loop-k
invariant-loop-k l = l.work ≡ emptied l.k l.initial.work

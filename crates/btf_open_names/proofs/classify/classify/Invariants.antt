use Rattle.btf_open_names.proofs.name_classes.Keys.{State}
use mathlib.Core.Path.{◌≡◌}
use lib.ListN.{length}
use Rattle.btf_open_names.proofs.classify.classify.Given as goal

abbrev pub invariant-loop-k : goal.invariant-loop-k
invariant-loop-k l = (length l.work ≡ length l.initial.work) × (l.work ≡ State l.all.table.head l.all.table.section.now l.all.n l.initial.work l.k)

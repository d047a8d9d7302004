use Rattle.btf_open_names.proofs.taken_numbers.Seek.{Seek}
use Rattle.btf_open_names.specs.name_classes.Classes.{key_in}
use Rattle.spec_bytes.specs.words.Words.{pick}
use lib.Dec.{eqb}
use Prim.Native.Nat.{◌-◌}
use Rattle.btf_open_names.proofs.taken_numbers.bases.base_in.Given as goal

abbrev pub invariant-loop-c : goal.invariant-loop-c
invariant-loop-c l = Seek (key_in l.all.table.head l.all.table.section.now l.work) l.h l.all.n l.i l.c

abbrev pub decreases-loop-c : goal.decreases-loop-c
decreases-loop-c l = pick (eqb l.c 0) 0 (l.all.n - l.c)

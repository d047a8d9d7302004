use Rattle.btf_open_names.specs.filled_work.Takers.{takers_put}
use Rattle.btf_open_names.specs.hash_table.Hashed.{TableIf}
use mathlib.Core.Path.{◌≡◌}
use Prim.Native.Nat.{◌-◌}
use lib.ListN.{length}
use Rattle.btf_open_names.proofs.taken_numbers.lists.put_takers.Given as goal

abbrev pub invariant-loop-h : goal.invariant-loop-h
invariant-loop-h l = (length l.work ≡ length l.initial.work) × (takers_put l.all.table.head l.all.table.section.now l.all.n (l.all.n - 1) l.initial.work ≡ takers_put l.all.table.head l.all.table.section.now l.all.n (l.h - 1) l.work) × TableIf l.has_table l.all.table.head l.all.table.section.now l.work l.all.n

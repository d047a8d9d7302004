use Rattle.btf_open_names.specs.hash_table.Hashed.{table_from}
use lib.ListN.{length}
use mathlib.Core.Path.{◌≡◌}
use Prim.Native.Nat.{◌+◌, ◌-◌, ◌≤◌}
use Rattle.btf_open_names.proofs.hash_table.put_table.Given as goal

abbrev pub invariant-loop-k : goal.invariant-loop-k
invariant-loop-k l = (1 ≤ l.k + (1 - l.all.n)) × (length l.work ≡ length l.initial.work) × (l.work ≡ table_from l.all.table.head l.all.table.section.now l.all.n l.k l.initial.work)

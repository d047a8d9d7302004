use Rattle.btf_open_names.specs.suffixes.Before.{base_len}
use Rattle.spec_type_table.specs.Names.{up_to_zero, name_at}
use mathlib.Core.Path.{◌≡◌}
use Prim.Native.Nat.{◌+◌}
use Rattle.btf_open_names.proofs.suffixes.suffix.base_len.Given as goal

abbrev pub invariant-loop-k : goal.invariant-loop-k
invariant-loop-k l = base_len (up_to_zero l.name) ≡ l.k + base_len (name_at l.name l.k)

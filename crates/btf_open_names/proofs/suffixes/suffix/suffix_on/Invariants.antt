use Rattle.btf_open_names.specs.filled_work.Takers.{suffix_on}
use Rattle.spec_type_table.specs.Names.{up_to_zero, name_at}
use mathlib.Core.Path.{◌≡◌}
use Rattle.btf_open_names.proofs.suffixes.suffix.suffix_on.Given as goal

abbrev pub invariant-loop-k : goal.invariant-loop-k
invariant-loop-k l = suffix_on (up_to_zero l.x) (up_to_zero l.y) ≡ suffix_on (name_at l.x l.k) (name_at l.y l.k)

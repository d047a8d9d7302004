use Rattle.spec_type_table.specs.Table.{btf_of}
use Rattle.spec_c_dumper.specs.rules.Layout.{get_size_of}
use mathlib.Core.Path.{◌≡◌}
use Prim.Native.Nat.{◌-◌}
use Rattle.btf_layout.proofs.size.+get_size_of.Given as goal

abbrev pub decreases-get_size_of : goal.decreases-get_size_of
decreases-get_size_of l = l.left

abbrev pub invariant-loop-passed : goal.invariant-loop-passed
invariant-loop-passed l = get_size_of l.left (btf_of l.b.head l.b.section.now l.work) l.id ≡ get_size_of (l.left - l.passed) (btf_of l.b.head l.b.section.now l.work) l.at

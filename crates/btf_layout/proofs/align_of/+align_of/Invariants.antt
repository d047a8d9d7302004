use Rattle.btf_layout.proofs.align_of.Cycle.{ids_rest}
use Rattle.btf_layout.specs.remembered.Words.{seen_is, ids_with}
use Rattle.spec_type_table.specs.Nodes.{member_ids}
use Rattle.spec_type_table.specs.Table.{btf_of}
use Rattle.spec_c_dumper.specs.alignment_once.Once.{alone}
use mathlib.Core.Path.{◌≡◌}
use Prim.Native.Nat.{◌+◌, ◌-◌}
use Rattle.btf_layout.proofs.align_of.+align_of.Given as goal

abbrev pub decreases-align_anew : goal.decreases-align_anew
decreases-align_anew l = (l.left - 1) + (l.left - 1) + (l.left - 1) + 3

abbrev pub decreases-get_align_of : goal.decreases-get_align_of
decreases-get_align_of l = l.left + l.left + l.left + 1

abbrev pub decreases-members_once : goal.decreases-members_once
decreases-members_once l = l.left + l.left + l.left + 2

abbrev pub invariant-members_once-loop-k : goal.invariant-members_once-loop-k
invariant-members_once-loop-k l = (btf_of l.b.head l.b.section.now l.work ≡ btf_of l.b.head l.b.section.now l.initial.work) × (ids_with l.b.head.types (btf_of l.b.head l.b.section.now l.initial.work) l.left (alone 1) (member_ids l.b.head l.b.section.now l.members) l.initial.work ≡ ids_rest l.b.head.types (btf_of l.b.head l.b.section.now l.initial.work) l.left l.b.head l.b.section.now l.members (seen_is l.seen) l.k l.work)

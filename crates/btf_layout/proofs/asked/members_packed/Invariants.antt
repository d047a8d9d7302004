use Rattle.btf_layout.proofs.asked.Laws.{members_rest}
use Rattle.btf_layout.specs.asked.Asked.{members_in}
use Rattle.spec_type_table.specs.Table.{btf_of, members_of}
use mathlib.Core.Path.{◌≡◌}
use Rattle.btf_layout.proofs.asked.members_packed.Given as goal

abbrev pub invariant-loop-k : goal.invariant-loop-k
invariant-loop-k l = (btf_of l.b.head l.b.section.now l.work ≡ btf_of l.b.head l.b.section.now l.initial.work) × (members_in l.b.head.types (btf_of l.b.head l.b.section.now l.initial.work) (members_of l.b.head l.b.section.now l.t) l.initial.work ≡ members_rest l.b.head.types (btf_of l.b.head l.b.section.now l.initial.work) l.b.head l.b.section.now l.t l.k l.work)

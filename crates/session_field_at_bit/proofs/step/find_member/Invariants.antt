use Rattle.session_field_at_bit.specs.step.Path.{tried}
use Rattle.spec_type_table.specs.Table.{btf_of, members_of}
use mathlib.Core.Path.{◌≡◌}
use Rattle.session_field_at_bit.proofs.step.Laws as laws
use Rattle.session_field_at_bit.proofs.step.find_member.Given as goal

abbrev pub invariant-loop-k : goal.invariant-loop-k
invariant-loop-k l = tried (btf_of l.b.head l.b.section.now l.work) l.bit 0 (members_of l.b.head l.b.section.now l.t) ≡ laws.tried_rest l.b.head l.b.section.now l.work l.t l.bit l.k

use Rattle.spec_type_table.proofs.Laws as laws
use mathlib.Core.Path.{◌∙◌, sym}
use Rattle.btf_type_table.proofs.table.Table.load_member.Goals as goal

pub returns-then-kind_flag_of : goal.returns-then-kind_flag_of
returns-then-kind_flag_of c = laws.member_bits _ _ _ _ _ _ c.member_place.ensures c.three.ensures (sym c.kind_flag_of.ensures ∙ c.if-kind_flag_of.true)

pub returns : goal.returns
returns c = laws.member_plain _ _ _ _ _ _ c.member_place.ensures c.three.ensures (sym c.kind_flag_of.ensures ∙ c.if-kind_flag_of.false)

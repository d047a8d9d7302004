use Rattle.spec_type_table.proofs.Laws as laws
use Rattle.btf_type_table.proofs.table.Table.load_enum64_value.Goals as goal

pub returns : goal.returns
returns c = laws.value64_is _ _ _ _ _ _ c.member_place.ensures c.three.ensures

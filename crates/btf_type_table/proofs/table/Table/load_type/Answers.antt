use Rattle.spec_type_table.proofs.Laws as laws
use Rattle.btf_type_table.proofs.table.Table.load_type.Goals as goal

pub returns : goal.returns
returns c = laws.record_is _ _ _ _ c.three.ensures

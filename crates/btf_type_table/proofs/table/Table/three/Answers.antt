use Rattle.spec_type_table.proofs.Laws as laws
use mathlib.Core.Path.{◌∙◌}
use Rattle.btf_type_table.proofs.table.Table.three.Goals as goal

pub returns : goal.returns
returns c = c.three_in.ensures ∙ laws.three_is _ _ _

use mathlib.Core.Path.{refl}
use Rattle.spec_type_table.proofs.Laws as laws
use Rattle.btf_type_table.proofs.cell.get_count.Goals as goal

pub returns : goal.returns
returns c = laws.counted_at _ _ _ _ _ _ refl c.get-class.ensures c.place.ensures _ _ c.count_at.ensures

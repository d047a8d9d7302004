use Rattle.c_dumper_padding.proofs.extents.Laws.{unit_tested}
use Rattle.c_dumper_padding.proofs.extents.same_unit.Goals as goal

pub returns : goal.returns
returns c = unit_tested _ _ _ _ _ _ _ c.saturating_sub.ensures c.checked_div.ensures c.checked_div-2.ensures c.eq.ensures

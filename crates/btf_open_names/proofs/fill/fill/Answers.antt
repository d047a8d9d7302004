use Rattle.btf_open_names.proofs.filled_work.Filled.{filled_is}
use Rattle.btf_open_names.proofs.fill.fill.Goals as goal

pub returns : goal.returns
returns c = filled_is _ _ _ _ _ _ _ _ _ c.fill_places.ensures c.fill_enums.ensures c.fill_tags.ensures c.classes.ensures

use Rattle.btf_layout.proofs.remembered.Laws.{widest_is}
use Rattle.btf_layout.proofs.remembered.Seen.widest.Goals as goal

pub returns : goal.returns
returns c = widest_is _ _ _ _ c.max.ensures c.max-2.ensures

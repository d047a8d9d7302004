use Rattle.btf_layout.proofs.remembered.Laws.{keep_ok}
use Rattle.btf_layout.proofs.align_of.keep_once.Goals as goal

pub returns : goal.returns
returns c = keep_ok _ _ _ _ _ _ c.remember.ensures

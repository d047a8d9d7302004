use Rattle.btf_open_causes.proofs.prototypes.Held.{next_is}
use Rattle.btf_open_causes.proofs.prototypes.next.Goals as goal

pub returns : goal.returns
returns c = next_is _ _ _ _ _ c.followed.ensures

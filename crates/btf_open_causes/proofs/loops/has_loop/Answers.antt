use Rattle.btf_open_causes.proofs.loops.Walks.{first}
use Rattle.btf_open_causes.proofs.loops.has_loop.Goals as goal

pub scan-requires : goal.scan-requires
scan-requires c = first _

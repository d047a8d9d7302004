use Rattle.btf_open_causes.proofs.prototypes.Cells.{first}
use Rattle.btf_open_causes.proofs.prototypes.leads_to_proto.Goals as goal

pub all-requires : goal.all-requires
all-requires c = first _

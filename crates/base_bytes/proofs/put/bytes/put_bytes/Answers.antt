use native.Mathlib.Omega.{arith}
use Rattle.base_bytes.proofs.Copies.{put_placed}
use Rattle.base_bytes.proofs.put.bytes.put_bytes.Goals as goal

pub returns : goal.returns
returns c = put_placed _ _ _ _ (omega arith) c.copy.ensures

use native.Mathlib.Omega.{arith}
use Rattle.base_bytes.proofs.Copies.{copied_turn, copied_all}
use Rattle.base_bytes.proofs.put.bytes.copy.Goals as goal

pub loop-k-preserved : goal.loop-k-preserved
loop-k-preserved c = copied_turn _ _ _ _ _ (omega arith) (omega arith) c.loop-k.invariant

pub returns : goal.returns
returns c = copied_all _ _ _ c.args.src.now _ c.loop-k.invariant (omega arith)

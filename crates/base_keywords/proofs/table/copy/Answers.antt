use native.Mathlib.Omega.{arith}
use Rattle.base_keywords.proofs.table.Laws.{copied_turn, copied_all}
use Rattle.base_keywords.proofs.table.copy.Goals as goal

pub loop-k-preserved : goal.loop-k-preserved
loop-k-preserved g c = copied_turn _ _ _ _ _ _ (omega arith) (omega arith) c.loop-k.invariant

pub returns : goal.returns
returns g c = copied_all _ _ _ _ _ _ _ (omega arith) (omega arith) c.loop-k.invariant

use native.Mathlib.Omega.{arith}
use Rattle.base_keywords.proofs.table.Laws.{copied_over}
use Rattle.base_keywords.proofs.table.copy_word.Goals as goal

pub returns-then-n-lt4 : goal.returns-then-n-lt4
returns-then-n-lt4 c = copied_over _ _ _ _ 2 _ _ _ (omega arith) (omega arith) (omega arith) (omega arith) c.copy.ensures c.copy-then-n-lt4.ensures

pub returns-then-n-le8 : goal.returns-then-n-le8
returns-then-n-le8 c = copied_over _ _ _ _ 4 _ _ _ (omega arith) (omega arith) (omega arith) (omega arith) c.copy-then-n-le8.ensures c.copy-then-n-le8-2.ensures

pub returns : goal.returns
returns c = copied_over _ _ _ _ 8 _ _ _ (omega arith) (omega arith) (omega arith) (omega arith) c.copy-2.ensures c.copy-3.ensures

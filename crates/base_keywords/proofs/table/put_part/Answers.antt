use native.Mathlib.Omega.{arith}
use Rattle.base_keywords.proofs.table.Laws.{part_none, copied_put}
use Rattle.base_keywords.proofs.table.put_part.Goals as goal

pub returns-then-saturating_sub-p : goal.returns-then-saturating_sub-p
returns-then-saturating_sub-p c = let a = c.args in part_none a.text.now a.at a.src.now a.p.start a.p.len (omega arith) (omega arith)

pub returns : goal.returns
returns c = copied_put _ _ _ _ _ _ (omega arith) (omega arith) c.copy_word.ensures

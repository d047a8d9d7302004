use native.Mathlib.Omega.{arith}
use lib.ListN.{replicate}
use Rattle.base_keywords.specs.table.Fixed.{table}
use Rattle.base_keywords.proofs.table.Compared.{same_part_other, same_part}
use Rattle.base_keywords.proofs.table.Laws.{put_back}
use Rattle.base_keywords.proofs.table.is_fixed.Goals as goal

pub returns-then-run-p : goal.returns-then-run-p
returns-then-run-p c = let a = c.args in same_part_other a.run.now table a.p.start a.p.len (omega arith) c.if-run-p.true

pub returns : goal.returns
returns c = let a = c.args in same_part _ _ _ _ c.eq.ensures (put_back (replicate 16 0) table a.p.start a.p.len _ _ (omega arith) (omega arith) c.put_fixed.ensures)

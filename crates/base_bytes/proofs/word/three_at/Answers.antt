use native.Mathlib.Omega.{arith}
use Rattle.spec_bytes.proofs.words.ThreeLaws.{three_in_lem}
use Rattle.base_bytes.proofs.word.three_at.Goals as goal

pub returns-then-at-saturating_sub : goal.returns-then-at-saturating_sub
returns-then-at-saturating_sub c = three_in_lem _ _ _ _ _ (omega arith) c.join_at.ensures c.join_at-then-at-saturating_sub.ensures c.join_at-then-at-saturating_sub-2.ensures

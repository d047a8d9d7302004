use mathlib.Core.Path.{refl}
use native.Mathlib.Omega.{arith}
use Rattle.spec_bytes.proofs.words.ThreeLaws.{three_big, three_little}
use Rattle.base_bytes.proofs.word.three_in.Goals as goal

pub returns-then-big : goal.returns-then-big
returns-then-big c = three_big _ _ _ _ c.three_at.ensures (λ i. omega (arith, c.shared_slice_known-1.given i)) c.if-big.true _ _ _ c.turned.ensures c.turned-then-big.ensures c.turned-then-big-2.ensures

pub returns : goal.returns
returns c = three_little _ _ _ _ c.three_at.ensures c.if-big.false _ _ _ refl refl refl

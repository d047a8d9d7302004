use native.Mathlib.Omega.{arith}
use Rattle.spec_bytes.proofs.words.Laws.{word_big, word_little}
use Rattle.base_bytes.proofs.word.word_in.Goals as goal

pub returns-then-big : goal.returns-then-big
returns-then-big c = word_big _ _ _ _ c.word_at-w.ensures (λ i. omega (arith, c.shared_slice_known-1.given i)) c.if-big.true _ c.turned.ensures

pub returns : goal.returns
returns c = word_little _ _ _ _ c.word_at-w.ensures c.if-big.false

use Rattle.spec_bytes.proofs.words.ThreeLaws.{three_of, three_out}
use Rattle.base_bytes.proofs.word.three_apart.Goals as goal

pub returns-then-b-at : goal.returns-then-b-at
returns-then-b-at c = three_out _ _ c.if-b-at.true

pub returns : goal.returns
returns c = three_of _ _ _ _ _ c.word_at.ensures c.word_at-2.ensures c.word_at-3.ensures

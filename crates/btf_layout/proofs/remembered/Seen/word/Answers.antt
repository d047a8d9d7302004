use native.Mathlib.Omega.{arith}
use Rattle.btf_layout.proofs.remembered.Laws.{word_wide, word_high, word_zero, word_some}
use Rattle.btf_layout.proofs.remembered.Seen.word.Goals.{then-self-ge-ALIGNMENTS-via-then-self-ge-ALIGNMENTS, then-self-ge-ALIGNMENTS-via-else-self-ge-ALIGNMENTS+then-self-gt-MOST_HEIGHT}
use Rattle.btf_layout.proofs.remembered.Seen.word.Goals as goal

pub returns-then-self-ge-ALIGNMENTS : goal.returns-then-self-ge-ALIGNMENTS
returns-then-self-ge-ALIGNMENTS c =
    elim c.then-self-ge-ALIGNMENTS.branch [
      | then-self-ge-ALIGNMENTS-via-then-self-ge-ALIGNMENTS w ↦ word_wide _ w.if-self-ge-ALIGNMENTS.true
      | then-self-ge-ALIGNMENTS-via-else-self-ge-ALIGNMENTS+then-self-gt-MOST_HEIGHT w ↦ word_high _ (omega arith) w.if-self-gt-MOST_HEIGHT.true
    ]

pub returns-then-v-eq0 : goal.returns-then-v-eq0
returns-then-v-eq0 c = word_zero _ (omega arith) c.if-self-gt-MOST_HEIGHT.false c.if-v-eq0.true

pub returns : goal.returns
returns c = word_some _ (omega arith) c.if-self-gt-MOST_HEIGHT.false c.if-v-eq0.false

use Rattle.spec_bytes.proofs.text.TextLaws.{put_same, put_seq, put_ended}
use Rattle.base_keywords.proofs.signed_decimal.Laws.{least, other}
use Rattle.base_keywords.proofs.signed_decimal.put_i64.Goals as goal

pub returns-then-v-eqminus9223372036854775808 : goal.returns-then-v-eqminus9223372036854775808
returns-then-v-eqminus9223372036854775808 c = put_same _ _ _ _ _ _ (least _ c.ranges.v c.if-v-eqminus9223372036854775808.true) c.put_least.ensures

pub returns : goal.returns
returns c = put_same _ _ _ _ _ _ (other _ c.ranges.v c.if-v-eqminus9223372036854775808.false) (put_seq _ _ _ _ _ _ _ _ c.in_ok-a.ensures c.put_word.ensures)

pub returns-in_err-a : goal.returns-in_err-a
returns-in_err-a c = put_same _ _ _ _ _ _ (other _ c.ranges.v c.if-v-eqminus9223372036854775808.false) (put_seq _ _ _ _ _ _ _ _ c.in_err-a.ensures (put_ended _ _ _ _ c.from_residual.ensures.1))

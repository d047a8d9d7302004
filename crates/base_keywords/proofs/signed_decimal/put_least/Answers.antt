use Rattle.spec_bytes.specs.text.Text.{ascii, whole}
use Rattle.spec_bytes.specs.text.Decimal.{decimal}
use Rattle.spec_bytes.proofs.text.TextLaws.{put_same, put_seq, put_past, put_ended}
use Rattle.base_keywords.proofs.signed_decimal.Laws.{least_parts}
use Rattle.base_keywords.proofs.signed_decimal.put_least.Goals as goal

pub returns : goal.returns
returns c = put_same _ _ _ _ _ _ least_parts (put_seq _ _ _ _ _ _ _ _ (put_seq _ _ _ _ _ _ _ _ (put_seq _ _ _ _ _ _ _ _ c.in_ok-a.ensures c.in_ok-c.ensures) c.in_ok-d.ensures) c.put_word-2.ensures)

pub returns-in_err-a : goal.returns-in_err-a
returns-in_err-a c = put_same _ _ _ _ _ _ least_parts (put_seq _ _ _ _ _ _ _ _ (put_seq _ _ _ _ _ _ _ _ (put_seq _ _ _ _ _ _ _ _ c.in_err-a.ensures (put_past _ _ (whole (decimal 9223372036854775807)))) (put_past _ _ (whole (ascii "LL")))) (put_ended _ _ _ _ c.from_residual.ensures.1))

pub returns-in_err-c : goal.returns-in_err-c
returns-in_err-c c = put_same _ _ _ _ _ _ least_parts (put_seq _ _ _ _ _ _ _ _ (put_seq _ _ _ _ _ _ _ _ (put_seq _ _ _ _ _ _ _ _ c.in_ok-a.ensures c.in_err-c.ensures) (put_past _ _ (whole (ascii "LL")))) (put_ended _ _ _ _ c.from_residual-in_err-c.ensures.1))

pub returns-in_err-d : goal.returns-in_err-d
returns-in_err-d c = put_same _ _ _ _ _ _ least_parts (put_seq _ _ _ _ _ _ _ _ (put_seq _ _ _ _ _ _ _ _ (put_seq _ _ _ _ _ _ _ _ c.in_ok-a.ensures c.in_ok-c.ensures) c.in_err-d.ensures) (put_ended _ _ _ _ c.from_residual-in_err-d.ensures.1))

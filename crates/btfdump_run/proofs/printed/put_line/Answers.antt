use Rattle.spec_bytes.specs.text.Text.{whole}
use Rattle.spec_bytes.specs.text.Decimal.{decimal}
use Rattle.spec_bytes.proofs.text.TextLaws.{put_seq, put_past, put_ended}
use Rattle.btfdump_run.specs.printed.Printed.{refused_line}
use Rattle.btfdump_run.proofs.printed.put_line.Goals as goal

pub returns-in_err-at : goal.returns-in_err-at
unfolding refused_line
returns-in_err-at c = put_seq _ _ _ _ _ _ _ _ (put_seq _ _ _ _ _ _ _ _ c.in_err-at.ensures (put_past _ _ (whole (decimal c.args.number)))) (put_ended _ _ _ _ c.from_residual.ensures.1)

pub returns-in_err-at-2 : goal.returns-in_err-at-2
unfolding refused_line
returns-in_err-at-2 c = put_seq _ _ _ _ _ _ _ _ (put_seq _ _ _ _ _ _ _ _ c.in_ok-at.ensures c.in_err-at-2.ensures) (put_ended _ _ _ _ c.from_residual-in_err-at-2.ensures.1)

pub returns : goal.returns
unfolding refused_line
returns c = put_seq _ _ _ _ _ _ _ _ (put_seq _ _ _ _ _ _ _ _ c.in_ok-at.ensures c.in_ok-at-2.ensures) c.put_bytes-2.ensures

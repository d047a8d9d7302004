use Rattle.spec_bytes.specs.text.Text.{whole}
use Rattle.spec_bytes.specs.text.Decimal.{decimal}
use Rattle.spec_bytes.proofs.text.TextLaws.{put_seq, put_ended}
use Rattle.c_dumper_name_versions.proofs.names.Spellings.{put_bare, put_more, put_stops}
use Rattle.c_dumper_name_versions.proofs.names.versions.put_name.Goals as goal

pub returns-then-n-lt-SECOND : goal.returns-then-n-lt-SECOND
returns-then-n-lt-SECOND c = put_bare _ _ _ _ _ _ _ c.unwrap_or-n.ensures c.if-n-lt-SECOND.true c.in_ok-a.ensures

pub returns : goal.returns
returns c = put_more _ _ _ _ _ _ _ c.unwrap_or-n.ensures c.if-n-lt-SECOND.false (put_seq _ _ _ _ _ _ _ _ (put_seq _ _ _ _ _ _ _ _ c.in_ok-a.ensures c.in_ok-c.ensures) c.put_decimal.ensures)

pub returns-in_err-a : goal.returns-in_err-a
returns-in_err-a c = put_stops _ _ _ _ _ _ _ c.in_err-a.ensures c.from_residual.ensures.1

pub returns-in_err-c : goal.returns-in_err-c
returns-in_err-c c = put_more _ _ _ _ _ _ _ c.unwrap_or-n.ensures c.if-n-lt-SECOND.false (put_seq _ _ _ _ _ _ _ _ (put_seq _ _ _ _ _ _ _ _ c.in_ok-a.ensures c.in_err-c.ensures) (put_ended _ _ _ (whole (decimal _)) c.from_residual-in_err-c.ensures.1))

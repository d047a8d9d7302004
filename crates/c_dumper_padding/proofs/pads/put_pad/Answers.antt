use Rattle.spec_bytes.specs.text.Text.{ascii, pfx, whole}
use Rattle.spec_bytes.specs.text.Decimal.{decimal}
use Rattle.spec_bytes.proofs.text.TextLaws.{put_past, put_ended}
use Rattle.spec_c_dumper.specs.rules.Decl.{unit_word}
use Rattle.c_dumper_padding.proofs.pads.Laws.{line_put}
use Rattle.c_dumper_padding.proofs.pads.put_pad.Goals as goal

pub returns : goal.returns
returns c = line_put _ _ _ _ _ _ _ _ _ _ _ _ _ _ _ _ c.in_ok-a.ensures c.in_ok-c.ensures c.in_ok-d.ensures c.in_ok-e.ensures c.in_ok-f.ensures c.put_byte-2.ensures

pub returns-in_err-a : goal.returns-in_err-a
returns-in_err-a c = line_put _ _ _ _ _ _ _ _ _ _ _ _ _ _ _ _ c.in_err-a.ensures (put_past _ _ (whole (pfx _))) (put_past _ _ (whole (unit_word _))) (put_past _ _ (whole (ascii ": "))) (put_past _ _ (whole (decimal _))) (put_ended _ _ _ _ c.from_residual.ensures.1)

pub returns-in_err-c : goal.returns-in_err-c
returns-in_err-c c = line_put _ _ _ _ _ _ _ _ _ _ _ _ _ _ _ _ c.in_ok-a.ensures c.in_err-c.ensures (put_past _ _ (whole (unit_word _))) (put_past _ _ (whole (ascii ": "))) (put_past _ _ (whole (decimal _))) (put_ended _ _ _ _ c.from_residual-in_err-c.ensures.1)

pub returns-in_err-d : goal.returns-in_err-d
returns-in_err-d c = line_put _ _ _ _ _ _ _ _ _ _ _ _ _ _ _ _ c.in_ok-a.ensures c.in_ok-c.ensures c.in_err-d.ensures (put_past _ _ (whole (ascii ": "))) (put_past _ _ (whole (decimal _))) (put_ended _ _ _ _ c.from_residual-in_err-d.ensures.1)

pub returns-in_err-e : goal.returns-in_err-e
returns-in_err-e c = line_put _ _ _ _ _ _ _ _ _ _ _ _ _ _ _ _ c.in_ok-a.ensures c.in_ok-c.ensures c.in_ok-d.ensures c.in_err-e.ensures (put_past _ _ (whole (decimal _))) (put_ended _ _ _ _ c.from_residual-in_err-e.ensures.1)

pub returns-in_err-f : goal.returns-in_err-f
returns-in_err-f c = line_put _ _ _ _ _ _ _ _ _ _ _ _ _ _ _ _ c.in_ok-a.ensures c.in_ok-c.ensures c.in_ok-d.ensures c.in_ok-e.ensures c.in_err-f.ensures (put_ended _ _ _ _ c.from_residual-in_err-f.ensures.1)

use Rattle.c_dumper_bodies.proofs.enums.Numbers.{put_signed64, put_plain64}
use Rattle.spec_bytes.proofs.text.TextLaws.{put_seq, put_halts}
use Rattle.c_dumper_bodies.proofs.enums.put_value64.Goals as goal

pub returns-then-is_signed : goal.returns-then-is_signed
returns-then-is_signed c = put_signed64 _ _ _ _ _ _ _ c.if-is_signed.true c.ranges.v (record { sfits = c.cast_signed.type_inv }) c.cast_signed.ensures c.put_i64.ensures

pub returns : goal.returns
returns c = put_plain64 _ _ _ _ _ _ c.if-is_signed.false (put_seq _ _ _ _ _ _ _ _ c.in_ok-a.ensures c.put_word.ensures)

pub returns-in_err-a : goal.returns-in_err-a
returns-in_err-a c = put_plain64 _ _ _ _ _ _ c.if-is_signed.false (put_halts _ _ _ _ _ _ _ c.in_err-a.ensures c.from_residual.ensures.1)

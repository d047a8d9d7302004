use Rattle.c_dumper_bodies.proofs.bodies.WordLaws as laws
use Rattle.spec_bytes.proofs.text.TextLaws.{put_same, put_empty, put_ended}
use Rattle.c_dumper_bodies.proofs.bodies.words.put_bit_size.Goals as goal

pub returns-then-bit_size-eq0 : goal.returns-then-bit_size-eq0
returns-then-bit_size-eq0 c = put_same _ _ _ _ _ _ (laws.size_none _ c.if-bit_size-eq0.true) (put_empty _ _)

pub returns : goal.returns
returns c = laws.size_put _ _ _ _ _ _ _ c.if-bit_size-eq0.false c.in_ok-a.ensures c.put_decimal.ensures

pub returns-in_err-a : goal.returns-in_err-a
returns-in_err-a c = laws.size_put _ _ _ _ _ _ _ c.if-bit_size-eq0.false c.in_err-a.ensures (put_ended _ _ _ _ c.from_residual.ensures.1)

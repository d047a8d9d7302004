use Rattle.spec_bytes.proofs.text.TextLaws.{put_past, put_ended}
use Rattle.c_dumper_bodies.proofs.bodies.WordLaws as laws
use Rattle.c_dumper_bodies.proofs.bodies.words.put_count.Goals as goal

pub returns : goal.returns
returns c = laws.count_put _ _ _ _ _ _ _ _ _ c.in_ok-a.ensures c.in_ok-c.ensures c.put_byte-2.ensures

pub returns-in_err-a : goal.returns-in_err-a
returns-in_err-a c = laws.count_put _ _ _ _ _ _ _ _ _ c.in_err-a.ensures (put_past _ _ _) (put_ended _ _ _ _ c.from_residual.ensures.1)

pub returns-in_err-c : goal.returns-in_err-c
returns-in_err-c c = laws.count_put _ _ _ _ _ _ _ _ _ c.in_ok-a.ensures c.in_err-c.ensures (put_ended _ _ _ _ c.from_residual-in_err-c.ensures.1)

use Rattle.c_dumper_bodies.proofs.enumerators.Definitions.{end_put}
use Rattle.spec_bytes.proofs.text.TextLaws.{put_past, put_ended}
use Rattle.c_dumper_bodies.proofs.enumerators.emit_enum_end.Goals as goal

pub returns : goal.returns
returns c = end_put _ _ _ _ _ _ _ _ _ c.in_ok-a.ensures c.in_ok-c.ensures c.put_byte-2.ensures

pub returns-in_err-a : goal.returns-in_err-a
returns-in_err-a c = end_put _ _ _ _ _ _ _ _ _ c.in_err-a.ensures (put_past _ _ _) (put_ended _ _ _ _ c.from_residual.ensures.1)

pub returns-in_err-c : goal.returns-in_err-c
returns-in_err-c c = end_put _ _ _ _ _ _ _ _ _ c.in_ok-a.ensures c.in_err-c.ensures (put_ended _ _ _ _ c.from_residual-in_err-c.ensures.1)

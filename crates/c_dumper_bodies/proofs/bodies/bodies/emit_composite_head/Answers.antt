use Rattle.spec_bytes.proofs.text.TextLaws.{put_past, put_ended}
use Rattle.c_dumper_bodies.proofs.bodies.BodyLaws as laws
use Rattle.c_dumper_bodies.proofs.bodies.bodies.emit_composite_head.Goals as goal

pub returns : goal.returns
returns c = laws.head_put _ _ _ _ _ _ _ _ _ _ _ _ _ _ _ _ _ c.resolve_type_name-name.ensures.1 c.is_struct.ensures c.in_ok-a.ensures c.in_ok-c.ensures c.put_bytes.ensures

pub returns-in_err-a : goal.returns-in_err-a
returns-in_err-a c = laws.head_put _ _ _ _ _ _ _ _ _ _ _ _ _ _ _ _ _ c.resolve_type_name-name.ensures.1 c.is_struct.ensures c.in_err-a.ensures (put_past _ _ _) (put_ended _ _ _ _ c.from_residual.ensures.1)

pub returns-in_err-c : goal.returns-in_err-c
returns-in_err-c c = laws.head_put _ _ _ _ _ _ _ _ _ _ _ _ _ _ _ _ _ c.resolve_type_name-name.ensures.1 c.is_struct.ensures c.in_ok-a.ensures c.in_err-c.ensures (put_ended _ _ _ _ c.from_residual-in_err-c.ensures.1)

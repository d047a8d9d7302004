use Rattle.c_dumper_bodies.proofs.bodies.BodyLaws as laws
use Rattle.c_dumper_bodies.proofs.bodies.bodies.emit_member_end.Goals as goal

pub returns : goal.returns
returns c = (c.put_member_tail.ensures, laws.end_offset _ _ _ c.member_end-end.ensures c.unwrap_or.ensures)

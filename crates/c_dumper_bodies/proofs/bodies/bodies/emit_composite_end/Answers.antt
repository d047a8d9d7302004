use Rattle.spec_bytes.proofs.text.TextLaws.{put_past, put_ended}
use Rattle.c_dumper_bodies.proofs.bodies.BodyLaws as laws
use Rattle.c_dumper_bodies.proofs.bodies.bodies.emit_composite_end.Goals as goal

pub returns : goal.returns
returns c = laws.end_put _ _ _ _ _ _ _ _ _ _ _ _ _ _ _ _ _ _ _ _ _ c.vlen_of.ensures c.in_ok-a.ensures c.in_ok-c.ensures c.in_ok-d.ensures c.in_ok-e.ensures c.emit_decl_tags.ensures

pub returns-in_err-a : goal.returns-in_err-a
returns-in_err-a c = laws.end_put _ _ _ _ _ _ _ _ _ _ _ _ _ _ _ _ _ _ _ _ _ c.vlen_of.ensures c.in_err-a.ensures (put_past _ _ _) (put_past _ _ _) (put_past _ _ _) (put_ended _ _ _ _ c.from_residual.ensures.1)

pub returns-in_err-c : goal.returns-in_err-c
returns-in_err-c c = laws.end_put _ _ _ _ _ _ _ _ _ _ _ _ _ _ _ _ _ _ _ _ _ c.vlen_of.ensures c.in_ok-a.ensures c.in_err-c.ensures (put_past _ _ _) (put_past _ _ _) (put_ended _ _ _ _ c.from_residual-in_err-c.ensures.1)

pub returns-in_err-d : goal.returns-in_err-d
returns-in_err-d c = laws.end_put _ _ _ _ _ _ _ _ _ _ _ _ _ _ _ _ _ _ _ _ _ c.vlen_of.ensures c.in_ok-a.ensures c.in_ok-c.ensures c.in_err-d.ensures (put_past _ _ _) (put_ended _ _ _ _ c.from_residual-in_err-d.ensures.1)

pub returns-in_err-e : goal.returns-in_err-e
returns-in_err-e c = laws.end_put _ _ _ _ _ _ _ _ _ _ _ _ _ _ _ _ _ _ _ _ _ c.vlen_of.ensures c.in_ok-a.ensures c.in_ok-c.ensures c.in_ok-d.ensures c.in_err-e.ensures (put_ended _ _ _ _ c.from_residual-in_err-e.ensures.1)

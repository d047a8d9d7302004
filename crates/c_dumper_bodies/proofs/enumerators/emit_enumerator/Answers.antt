use Rattle.c_dumper_bodies.proofs.enumerators.Values.{head_put}
use Rattle.spec_bytes.proofs.text.TextLaws.{put_past, put_ended}
use Rattle.c_dumper_bodies.proofs.enumerators.emit_enumerator.Goals as goal

pub returns : goal.returns
returns c = head_put c.args.b.now.head _ _ _ _ _ c.resolve_name-name.result _ _ _ _ _ _ _ _ _ _ _ _ c.resolve_name-name.ensures c.in_ok-a.ensures c.in_ok-c.ensures c.in_ok-d.ensures c.put_bytes.ensures

pub returns-in_err-a : goal.returns-in_err-a
returns-in_err-a c = head_put c.args.b.now.head _ _ _ _ _ c.resolve_name-name.result _ _ _ _ _ _ _ _ _ _ _ _ c.resolve_name-name.ensures c.in_err-a.ensures (put_past _ _ _) (put_past _ _ _) (put_ended _ _ _ _ c.from_residual.ensures.1)

pub returns-in_err-c : goal.returns-in_err-c
returns-in_err-c c = head_put c.args.b.now.head _ _ _ _ _ c.resolve_name-name.result _ _ _ _ _ _ _ _ _ _ _ _ c.resolve_name-name.ensures c.in_ok-a.ensures c.in_err-c.ensures (put_past _ _ _) (put_ended _ _ _ _ c.from_residual-in_err-c.ensures.1)

pub returns-in_err-d : goal.returns-in_err-d
returns-in_err-d c = head_put c.args.b.now.head _ _ _ _ _ c.resolve_name-name.result _ _ _ _ _ _ _ _ _ _ _ _ c.resolve_name-name.ensures c.in_ok-a.ensures c.in_ok-c.ensures c.in_err-d.ensures (put_ended _ _ _ _ c.from_residual-in_err-d.ensures.1)

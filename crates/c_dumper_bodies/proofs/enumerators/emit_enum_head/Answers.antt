use Rattle.spec_bytes.proofs.text.TextLaws.{put_ended}
use Rattle.c_dumper_bodies.proofs.enumerators.Definitions.{head_put}
use Rattle.c_dumper_bodies.proofs.enumerators.emit_enum_head.Goals as goal

pub returns : goal.returns
returns c = head_put c.args.b.now.head _ _ _ _ _ _ _ _ _ _ _ c.resolve_type_name-name.ensures.1 c.in_ok-a.ensures c.put_sep_name.ensures

pub returns-in_err-a : goal.returns-in_err-a
returns-in_err-a c = head_put c.args.b.now.head _ _ _ _ _ _ _ _ _ _ _ c.resolve_type_name-name.ensures.1 c.in_err-a.ensures (put_ended _ _ _ _ c.from_residual.ensures.1)

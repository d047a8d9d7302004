use Rattle.c_dumper_bodies.proofs.enums.Numbers.{put_wide, put_narrow}
use Rattle.c_dumper_bodies.proofs.enums.emit_value.Goals as goal

pub returns-then-wide : goal.returns-then-wide
returns-then-wide c = put_wide _ _ _ _ _ _ c.args.b.now.head _ _ _ _ c.if-wide.true c.load_enum64_value-v.ensures c.put_value64.ensures

pub returns : goal.returns
returns c = put_narrow _ _ _ _ _ _ c.args.b.now.head _ _ _ _ c.if-wide.false c.load_enum_value-v.ensures c.put_value.ensures

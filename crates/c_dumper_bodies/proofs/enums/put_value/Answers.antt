use Rattle.c_dumper_bodies.proofs.enums.Numbers.{put_signed, put_plain}
use Rattle.c_dumper_bodies.proofs.enums.put_value.Goals as goal

pub returns-then-is_signed : goal.returns-then-is_signed
returns-then-is_signed c = put_signed _ _ _ _ _ _ _ c.if-is_signed.true c.ranges.v (record { sfits = c.cast_signed.type_inv }) c.cast_signed.ensures c.put_i32.ensures

pub returns : goal.returns
returns c = put_plain _ _ _ _ _ _ c.if-is_signed.false c.put_decimal.ensures

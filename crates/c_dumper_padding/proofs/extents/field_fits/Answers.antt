use Rattle.c_dumper_padding.proofs.extents.Laws.{field_wide, field_packed, field_unit}
use Rattle.c_dumper_padding.proofs.extents.field_fits.Goals as goal

pub returns-then-size-bit_size : goal.returns-then-size-bit_size
returns-then-size-bit_size c = field_wide _ _ _ _ c.if-size-bit_size.true

pub returns-then-packed : goal.returns-then-packed
returns-then-packed c = field_packed _ _ _ _ c.if-size-bit_size.false c.if-packed.true

pub returns : goal.returns
returns c = field_unit _ _ _ _ c.if-size-bit_size.false c.if-packed.false _ c.same_unit.ensures

use Rattle.c_dumper_padding.proofs.units.Laws.{is_narrow, is_small, is_long}
use Rattle.c_dumper_padding.proofs.units.pad_of.Goals as goal

pub returns-then-gap-le32 : goal.returns-then-gap-le32
returns-then-gap-le32 c = is_narrow _ _ _ c.if-gap-le32.true c.short_pad.ensures

pub returns-then-ptr_sz-le4 : goal.returns-then-ptr_sz-le4
returns-then-ptr_sz-le4 c = is_small _ _ _ c.if-ptr_sz-le4.true c.short_pad-then-ptr_sz-le4.ensures

pub returns : goal.returns
returns c = is_long _ _ _ c.if-gap-le32.false c.if-ptr_sz-le4.false c.chip_away_bits.ensures

use Rattle.c_dumper_padding.proofs.units.Laws.{is_int, is_short, is_char}
use Rattle.c_dumper_padding.proofs.units.short_pad.Goals as goal

pub returns-then-gap-gt16 : goal.returns-then-gap-gt16
returns-then-gap-gt16 c = is_int _ _ c.if-gap-gt16.true c.chip_away_bits.ensures

pub returns-then-gap-gt8 : goal.returns-then-gap-gt8
returns-then-gap-gt8 c = is_short _ _ c.if-gap-gt16.false c.if-gap-gt8.true c.chip_away_bits-then-gap-gt8.ensures

pub returns : goal.returns
returns c = is_char _ _ c.if-gap-gt16.false c.if-gap-gt8.false c.chip_away_bits-2.ensures

use Rattle.c_dumper_padding.proofs.units.Laws.{chip_none, chip_whole, chip_rest}
use mathlib.Core.Path.{refl}
use Rattle.c_dumper_padding.proofs.units.chip_away_bits.Goals as goal

pub returns-then-at_most-eq0 : goal.returns-then-at_most-eq0
returns-then-at_most-eq0 c = chip_none _ _ c.if-at_most-eq0.true

pub returns-then-rest-eq0 : goal.returns-then-rest-eq0
returns-then-rest-eq0 c = chip_whole _ _ _ refl c.if-rest-eq0.true

pub returns-else-rest-eq0 : goal.returns-else-rest-eq0
returns-else-rest-eq0 c = chip_rest _ _ _ refl c.if-rest-eq0.false

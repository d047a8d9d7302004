use Rattle.c_dumper_padding.proofs.units.Placing.{suits_not, suits_if}
use Rattle.c_dumper_padding.proofs.units.suits.Goals as goal

pub returns-then-is_unaligned : goal.returns-then-is_unaligned
returns-then-is_unaligned c = suits_not _ _ _ _ c.if-is_unaligned.true

pub returns : goal.returns
returns c = suits_if _ _ _ _ c.if-is_unaligned.false

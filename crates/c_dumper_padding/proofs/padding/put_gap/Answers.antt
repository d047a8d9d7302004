use mathlib.Core.Path.{refl}
use Rattle.c_dumper_padding.proofs.pads.Placing.{gap_natural, gap_bits, gap_wide}
use Rattle.c_dumper_padding.proofs.padding.put_gap.Goals.{else-bit_size-eq0-via-then-bit_size-eq0+else-width-a, else-bit_size-eq0-via-else-bit_size-eq0}
use Rattle.c_dumper_padding.proofs.padding.put_gap.Goals as goal

pub returns-then-width-a : goal.returns-then-width-a
returns-then-width-a c = gap_natural _ _ _ _ _ _ _ _ _ c.if-bit_size-eq0.true c.if-width-a.true

pub returns : goal.returns
returns c =
    elim c.else-bit_size-eq0.branch [
      | else-bit_size-eq0-via-then-bit_size-eq0+else-width-a w ↦ gap_wide _ _ _ _ _ _ _ _ _ _ _ _ _ refl refl c.put_pads.ensures w.if-width-a.false
      | else-bit_size-eq0-via-else-bit_size-eq0 w ↦ gap_bits _ _ _ _ _ _ _ _ _ _ _ _ _ refl refl c.put_pads.ensures w.if-bit_size-eq0.false
    ]

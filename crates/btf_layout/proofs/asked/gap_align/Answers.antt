use Rattle.btf_layout.proofs.asked.Laws.{gap_packed, gap_asked}
use Rattle.btf_layout.proofs.asked.gap_align.Goals as goal

pub returns-then-packed : goal.returns-then-packed
returns-then-packed c = gap_packed _ _ _ _ _ c.if-packed.true

pub returns : goal.returns
returns c = gap_asked _ _ _ _ _ c.if-packed.false _ _ c.alignment.ensures

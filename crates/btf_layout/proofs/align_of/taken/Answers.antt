use Rattle.btf_layout.proofs.remembered.Laws.{taken_fits, taken_over}
use Rattle.btf_layout.proofs.align_of.taken.Goals as goal

pub returns-then-left-s : goal.returns-then-left-s
returns-then-left-s c = taken_over _ _ c.if-left-s.true

pub returns : goal.returns
returns c = taken_fits _ _ c.if-left-s.false

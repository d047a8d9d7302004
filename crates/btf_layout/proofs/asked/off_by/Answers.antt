use Rattle.btf_layout.proofs.asked.Laws.{by_none, by_some}
use Rattle.btf_layout.proofs.asked.off_by.Goals as goal

pub returns-then-a-eq0 : goal.returns-then-a-eq0
returns-then-a-eq0 c = by_none _ _ c.if-a-eq0.true

pub returns : goal.returns
returns c = by_some _ _ c.if-a-eq0.false _ _ c.from.ensures c.from-unit.ensures

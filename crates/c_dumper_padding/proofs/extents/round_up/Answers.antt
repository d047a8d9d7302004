use Rattle.c_dumper_padding.proofs.extents.Laws.{round_none, round_some}
use Rattle.c_dumper_padding.proofs.extents.round_up.Goals as goal

pub returns-then-a-eq0 : goal.returns-then-a-eq0
returns-then-a-eq0 c = round_none _ _ c.if-a-eq0.true

pub returns : goal.returns
returns c = round_some _ _ c.if-a-eq0.false _ c.div_ceil.ensures

use Rattle.c_dumper_padding.proofs.units.Laws.{next_placed, next_old}
use Rattle.c_dumper_padding.proofs.units.next_pad.Goals as goal

pub returns-then-placing : goal.returns-then-placing
returns-then-placing c = next_placed _ _ _ _ _ c.if-placing.true c.placed_pad.ensures

pub returns : goal.returns
returns c = next_old _ _ _ _ _ c.if-placing.false c.pad_of.ensures

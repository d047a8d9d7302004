use Rattle.c_dumper_padding.proofs.placing.Laws.{body_placed, body_old}
use Rattle.c_dumper_padding.proofs.placing.body_packed.Goals as goal

pub returns-then-is_measured : goal.returns-then-is_measured
returns-then-is_measured c = body_placed _ _ _ _ _ _ _ _ _ c.if-is_measured.true c.measured.ensures

pub returns : goal.returns
returns c = body_old _ _ _ _ _ _ _ _ _ c.if-is_measured.false c.is_packed.ensures

use Rattle.btf_open_causes.proofs.loops.TypeLoops.{deg_by}
use Rattle.btf_open_causes.proofs.loops.Walks.{start, no_way}
use Rattle.btf_open_causes.proofs.loops.walk.Goals as goal

pub returns-then-degree-eq0 : goal.returns-then-degree-eq0
returns-then-degree-eq0 c = no_way _ _ _ c.requires.0 _ c.requires.1 c.if-st-at-ne-NEW.false _ (deg_by _ _ _ _ _ c.entry.ensures _ c.degree.ensures) c.if-degree-eq0.true

pub loop-d-init : goal.loop-d-init
loop-d-init c = start _ _ _ c.requires.0 _ c.requires.1 c.if-st-at-ne-NEW.false

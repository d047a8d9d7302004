use Rattle.c_dumper_emit.proofs.entries.Walk as walk
use Rattle.c_dumper_emit.proofs.emission.Emission.emit_mention.Goals as goal

pub returns-then-x-cont : goal.returns-then-x-cont
returns-then-x-cont c = λ n. walk.mention_self _ _ _ _ n _ _ _ _ _ _ c.if-x-cont.true

pub returns : goal.returns
returns c = λ n. walk.mention_other _ _ _ _ n _ _ _ _ _ _ c.if-x-cont.false _ c.forward_origin-e.ensures _ (c.emit_once.ensures n)

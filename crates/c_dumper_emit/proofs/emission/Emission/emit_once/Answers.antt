use Rattle.c_dumper_emit.proofs.entries.Laws as laws
use Rattle.c_dumper_emit.proofs.entries.Walk as walk
use Rattle.c_dumper_emit.proofs.emission.Emission.emit_once.Goals as goal

pub returns-then-get_fwd_emitted : goal.returns-then-get_fwd_emitted
returns-then-get_fwd_emitted c = λ n. walk.once_had _ _ _ _ n _ _ _ _ _ _ _ c.get_fwd_emitted.ensures c.if-get_fwd_emitted.true

pub returns : goal.returns
returns c = λ n. walk.once_new _ _ _ _ n _ _ _ _ _ _ _ c.get_fwd_emitted.ensures c.if-get_fwd_emitted.false _ (c.in_ok-a.ensures n) _ (laws.flag_last n _ _ _ _ _ _ c.set_fwd_emitted.ensures)

pub returns-in_err-a : goal.returns-in_err-a
returns-in_err-a c = λ n. walk.once_new _ _ _ _ n _ _ _ _ _ _ _ c.get_fwd_emitted.ensures c.if-get_fwd_emitted.false _ (c.in_err-a.ensures n) _ (laws.ended n _ _ _ _ _ _ c.from_residual.ensures.1)

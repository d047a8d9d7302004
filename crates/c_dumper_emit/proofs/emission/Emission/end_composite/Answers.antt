use Rattle.c_dumper_emit.proofs.entries.Laws as entries
use Rattle.c_dumper_emit.proofs.steps.Laws as laws
use Rattle.c_dumper_emit.proofs.emission.Emission.end_composite.Goals as goal

pub returns-then-cont-ne0 : goal.returns-then-cont-ne0
returns-then-cont-ne0 c = λ n. laws.ends_within _ _ _ _ n _ _ _ _ _ _ _ c.if-cont-ne0.true _ c.set_mark.ensures

pub returns : goal.returns
returns c = λ n. laws.ends_top _ _ _ _ n _ _ _ _ _ _ _ c.if-cont-ne0.false _ c.listed_origin-e.ensures _ (c.in_ok-a.ensures n) _ (entries.state_last n _ _ _ _ _ _ _ c.set_mark-2.ensures)

pub returns-in_err-a : goal.returns-in_err-a
returns-in_err-a c = λ n. laws.ends_top _ _ _ _ n _ _ _ _ _ _ _ c.if-cont-ne0.false _ c.listed_origin-e.ensures _ (c.in_err-a.ensures n) _ (entries.ended n _ _ _ _ _ _ c.from_residual.ensures.1)

use Rattle.c_dumper_emit.proofs.entries.Laws as entries
use Rattle.c_dumper_emit.proofs.steps.Laws as laws
use Rattle.c_dumper_emit.proofs.emission.Emission.end_typedef.Goals as goal

pub returns : goal.returns
returns c = λ n. laws.typedef_ends _ _ _ _ n _ _ _ _ _ _ _ (entries.cause_by _ _ _ _ _ _ c.from.ensures c.origin_at-e.ensures) _ (c.in_ok-a.ensures n) _ (entries.state_last n _ _ _ _ _ _ _ c.set_mark.ensures)

pub returns-in_err-a : goal.returns-in_err-a
returns-in_err-a c = λ n. laws.typedef_ends _ _ _ _ n _ _ _ _ _ _ _ (entries.cause_by _ _ _ _ _ _ c.from.ensures c.origin_at-e.ensures) _ (c.in_err-a.ensures n) _ (entries.ended n _ _ _ _ _ _ c.from_residual.ensures.1)

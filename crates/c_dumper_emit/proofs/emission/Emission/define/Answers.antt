use Rattle.c_dumper_emit.proofs.entries.Laws as laws
use Rattle.c_dumper_emit.proofs.emission.Emission.define.Goals as goal

pub returns : goal.returns
returns c = λ n. laws.line_shown _ _ _ _ _ _ _ _ (laws.and_true _) (c.in_ok-q.ensures n _ _) (laws.said_goes n _ _ _ _ _ _ _ _ c.in_ok-a.ensures)

pub returns-in_err-q : goal.returns-in_err-q
returns-in_err-q c = λ n. laws.line_shown _ _ _ _ _ _ _ _ (laws.and_true _) (c.in_err-q.ensures n _ _) (laws.ended n _ _ _ _ _ _ c.from_residual.ensures.1)

pub returns-in_err-a : goal.returns-in_err-a
returns-in_err-a c = λ n. laws.line_shown _ _ _ _ _ _ _ _ (laws.and_true _) (c.in_ok-q.ensures n _ _) (laws.said_halts n _ _ _ _ _ _ _ _ _ c.in_err-a.ensures c.from_residual-in_err-a.ensures.1)

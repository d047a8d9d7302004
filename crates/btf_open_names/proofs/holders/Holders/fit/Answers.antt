use native.Mathlib.Omega.{arith}
use Rattle.btf_open_names.proofs.holders.Laws.{fit_by}
use Rattle.btf_open_names.proofs.holders.Holders.fit.Goals as goal

pub returns : goal.returns
returns c = fit_by _ _ _ (omega arith)

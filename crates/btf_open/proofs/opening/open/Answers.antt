use Rattle.std.proofs.lemmas.Result.{err_from_is_err_and}
use mathlib.Core.Path.{refl}
use Rattle.spec_opening.proofs.Opens.{open_refused, open_sound}
use Rattle.btf_open.proofs.opening.open.Goals as goal

pub returns-in_err-counts : goal.returns-in_err-counts
returns-in_err-counts c =
    let p = err_from_is_err_and c.from_residual.result c.from_residual.ensures.1 in
    rw (p.1, p.2) (open_refused _ _ _ _ _ _ _ c.in_err-counts.ensures _ refl)

pub returns : goal.returns
returns c = open_sound _ _ _ _ _ _ _ c.in_ok-counts.ensures _ refl _ c.clear.ensures _ c.clear-2.ensures _ c.btf_of-head.ensures _ c.fill.ensures _ c.takers.ensures

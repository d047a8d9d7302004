use mathlib.Core.Path.{refl}
use Rattle.session_cut_marks.specs.marks.Marks.{all_zero}
use Rattle.session_cut.proofs.call.Laws as laws
use Rattle.session_cut.proofs.call.write_cut.Goals as goal

pub returns : goal.returns
unfolding all_zero
returns c = laws.kept_of _ _ _ _ _ _ _ _ _ refl c.number_kept.ensures c.write_kept.ensures

use mathlib.Core.Logic.{⊎_elim}
use Rattle.btf_open_causes.proofs.prototypes.Cells.{run_start, answer_yes, answer_no}
use Rattle.btf_open_causes.proofs.prototypes.ask.Goals as goal

pub returns-in-Yes : goal.returns-in-Yes
returns-in-Yes c = answer_yes _ _ _ _ _ (run_start _ _ _ c.requires) c.in-Yes.ensures _ c.requires

pub returns-in-No : goal.returns-in-No
returns-in-No c = answer_no _ _ _ _ _ (run_start _ _ _ c.requires) _ c.look.ensures
    (λ e. ⊎_elim (λ a. cc) (λ a. cc) c.in-No.is) (λ e. ⊎_elim (λ a. cc) (λ a. cc) c.in-No.is) _ c.requires

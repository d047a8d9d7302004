use lib.ListN.{replicate}
use mathlib.Core.Path.{◌∙◌, ap}
use Rattle.spec_opening.specs.Table.{empty_index}
use Rattle.btf_open.proofs.causes.clear_index.Goals as goal

pub returns : goal.returns
unfolding empty_index
returns c = c.fill.ensures.after (λ y e. e) ∙ ap (λ n. replicate n 0) c.told-start

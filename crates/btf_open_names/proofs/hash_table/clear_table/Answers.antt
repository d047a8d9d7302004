use Prim.Native.Nat.{ℕ}
use mathlib.Core.Path.{ap, ◌∙◌}
use mathlib.Core.List.{List}
use Rattle.btf_open_names.specs.name_classes.Classes.{fill, noughts}
use Rattle.btf_open_names.specs.hash_table.Hashed.{first_p, over}
use Rattle.btf_open_names.proofs.hash_table.clear_table.Goals as goal

pub returns : goal.returns
unfolding over
returns c = c.clear-2.ensures ∙ ap (λ (w : List ℕ). fill (first_p c.args.types) noughts w c.args.n) c.clear.ensures

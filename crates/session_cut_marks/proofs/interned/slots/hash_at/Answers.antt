use mathlib.Core.Path.{◌∙◌, ap}
use mathlib.Core.List.{List}
use Prim.Native.Nat.{ℕ}
use Rattle.spec_type_table.specs.Names.{up_to_zero, name_at}
use Rattle.btf_open_names.specs.name_classes.Table.{hash_from}
use Rattle.session_cut_marks.proofs.interned.slots.hash_at.Goals as goal

pub returns : goal.returns
unfolding name_at
returns c = c.hash_name.ensures ∙ ap (λ (l : List ℕ). hash_from 0 (up_to_zero l)) c.from_name.ensures

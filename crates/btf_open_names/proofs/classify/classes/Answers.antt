use Prim.Native.Nat.{ℕ}
use mathlib.Core.Path.{◌∙◌}
use Rattle.btf_type_table.specs.declared.table.Table.{Table}
use Rattle.btf_open_names.specs.name_classes.Classes.{table_classed}
use Rattle.btf_open_names.proofs.holders.Laws.{given_back}
use Rattle.btf_open_names.proofs.name_classes.Keys.{too_many}
use Rattle.btf_open_names.proofs.classify.classes.Goals as goal

pub returns-in-Some : goal.returns-in-Some
returns-in-Some c = c.classify.ensures ∙ given_back (λ (b : Table) (e : ℕ). table_classed b.head e b.section.now c.args.work.now) _ _ _ _ c.in-Some.ensures.some

pub returns-in_default : goal.returns-in_default
returns-in_default c = too_many _ _ _ _ c.in_default.ensures.none

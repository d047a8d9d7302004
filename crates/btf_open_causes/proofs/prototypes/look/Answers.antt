use Rattle.std.proofs.Common.{arith, sym, ◌∙◌}
use Rattle.btf_open_causes.specs.declared.prototypes.Cell.TheVariants.{Unknown}
use Rattle.btf_open_causes.proofs.prototypes.Cells.{look_out, look_says}
use Rattle.btf_open_causes.proofs.prototypes.look.Goals as goal

pub returns-in-Some-Unknown : goal.returns-in-Some-Unknown
returns-in-Some-Unknown c =
    look_says _ _ c.requires _ c.in-Some-Unknown.ensures.lookup.3.0
    (sym (c.in-Some-Unknown.ensures.lookup.3.1 Unknown) ∙ c.in-Some-Unknown.field-0-is) _ c.cell_of.ensures

pub returns-in-None : goal.returns-in-None
returns-in-None c = look_out _ _ c.requires _ (let h = c.in-None.ensures.lookup in omega arith)

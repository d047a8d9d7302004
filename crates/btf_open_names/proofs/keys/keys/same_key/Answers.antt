use mathlib.Core.Path.{ap, ap₂, ◌∙◌}
use Rattle.spec_type_table.specs.Names.{name_at}
use Rattle.btf_open_names.specs.name_classes.Same.{same_list}
use Rattle.btf_open_names.proofs.name_classes.Names.{same_from, name_of_rest}
use Rattle.std.proofs.Common.{rules, eq-eqb}
use Rattle.btf_open_names.proofs.keys.Spaces.{same_none, same_one, same_other_one, same_other, same_some}
use Rattle.btf_open_names.proofs.keys.keys.same_key.Goals as goal

pub returns-then-x-y : goal.returns-then-x-y
returns-then-x-y c = eq-eqb _ _ c.if-x-y.true ∙ same_some _ _ _ _ _ c.in-Some-Some.is-0 c.in-Some-Some.is-1 (search rules) _ (same_from _ _ (ap (name_at _) c.if-x-y.true))

pub returns-else-x-y : goal.returns-else-x-y
returns-else-x-y c =
    same_some _ _ _ _ _ c.in-Some-Some.is-0 c.in-Some-Some.is-1 (search rules) _
    (c.same_name.ensures ∙ ap₂ same_list (name_of_rest _ _ _ c.from_name.ensures) (name_of_rest _ _ _ c.from_name-else-x-y.ensures))

pub returns-else-eq : goal.returns-else-eq
returns-else-eq c = c.if-eq.false ∙ same_other _ _ _ _ _ c.in-Some-Some.is-0 c.in-Some-Some.is-1 (λ e. search rules)

pub returns-in-None-None : goal.returns-in-None-None
returns-in-None-None c = same_none _ _ _ c.in-None-None.is-0 c.in-None-None.is-1

pub returns-in_default : goal.returns-in_default
returns-in_default c = same_other_one _ _ _ _ c.in_default.is-0 c.in_default.is-1

pub returns-in_default-2 : goal.returns-in_default-2
returns-in_default-2 c = same_one _ _ _ _ c.in_default.is-0 c.in_default.is-1

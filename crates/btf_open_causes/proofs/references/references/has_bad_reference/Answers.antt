use Rattle.std.proofs.Common.{arith, rules, tests, ◌∙◌, ap, ℕ, refl}
use Rattle.std.proofs.lemmas.Iterator.{YieldsList-from_range}
use Rattle.std.proofs.lemmas.Iterator.Search.{any_from_yields_List}
use Rattle.btf_open_causes.proofs.references.Any.{any_range}
use Rattle.btf_open_causes.specs.references.Any.{any_below}
use Rattle.btf_open_causes.specs.references.References.{is_some_bad, has_bad_reference}
use Rattle.btf_open_causes.proofs.references.references.has_bad_reference.Goals as goal

pub returns : goal.returns
unfolding has_bad_reference
returns c =
    let test = is_some_bad c.args.i.now.table.head c.args.i.now.table.section.now c.args.i.now.start.now in
    any_from_yields_List test _ _ c.any.result c.any.ensures.ran (YieldsList-from_range 0 c.count.result c.count.result refl (omega arith)) (λ x b q k. search (rules, tests))
    ∙ any_range test c.count.result
    ∙ ap (λ (n : ℕ). any_below n test) c.count.ensures

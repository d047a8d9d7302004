use Rattle.std.proofs.Common.{arith, rules, tests, ◌∙◌, ◌%◌, ℕ, refl}
use Rattle.std.proofs.lemmas.Iterator.{YieldsList-from_range}
use Rattle.std.proofs.lemmas.Iterator.Search.{any_from_yields_List}
use Rattle.btf_open_causes.proofs.references.Any.{any_range}
use Rattle.btf_open_causes.specs.references.Followed.{id_at}
use Rattle.btf_open_causes.specs.references.References.{is_bad}
use Rattle.btf_open_causes.proofs.references.BadIds.{some_bad_is}
use Rattle.btf_open_causes.proofs.references.references.is_some_bad.Goals as goal

pub returns : goal.returns
returns c =
    let e = c.entry-e.result.word in
    let n = c.count_at.result in
    let test = λ (k : ℕ). is_bad c.args.i.now.table.head c.args.i.now.start.now (id_at c.args.i.now.table.head c.args.i.now.table.section.now (e % 32) c.place-at.result k) in
    any_from_yields_List test _ _ c.any.result c.any.ensures.ran (YieldsList-from_range 0 n n refl (omega arith)) (λ x b q k. search (rules, tests))
    ∙ any_range test n
    ∙ some_bad_is c.args.i.now.table.head c.args.i.now.table.section.now c.args.i.now.start.now c.args.x e c.entry-e.ensures _ c.place-at.ensures n (c.count_at.ensures _ c.kind-kind.ensures)

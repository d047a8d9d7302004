use Rattle.std.proofs.Common.{rules, tests, ℕ, ◌∙◌, refl, arith}
use Rattle.std.proofs.lemmas.Iterator.{YieldsList-from_range}
use Rattle.std.proofs.lemmas.Iterator.Consumers.{fold_from_yields_List}
use Rattle.spec_type_table.specs.Records.{record_by_id}
use Rattle.c_dumper_bodies.specs.chain.Chains.{next_of}
use Rattle.c_dumper_bodies.proofs.chain.Paths.{path_walk}
use Rattle.c_dumper_bodies.proofs.chain.links.path_at.Goals as goal

pub returns : goal.returns
returns c =
    fold_from_yields_List _ (λ (id x : ℕ). next_of c.args.b.now.head c.args.b.now.section.now (record_by_id c.args.b.now.head c.args.b.now.section.now c.args.work.now id)) c.args.start c.fold.result c.fold.ensures.ran
    (YieldsList-from_range 0 c.args.k c.args.k refl (omega arith))
    (λ a x b q k. search (rules, tests))
    ∙ path_walk c.args.b.now.head c.args.b.now.section.now c.args.work.now c.args.start c.args.k

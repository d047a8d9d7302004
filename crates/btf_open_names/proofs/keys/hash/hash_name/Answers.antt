use Rattle.std.proofs.Common.{rules, tests, ℕ, not, eqb, ◌∙◌}
use Rattle.std.proofs.lemmas.Iterator.{YieldsList-from_slice}
use Rattle.std.proofs.lemmas.Iterator.Consumers.{fold_from_yields_List}
use Rattle.std.proofs.lemmas.Iterator.Search.{YieldsList-from_take_while}
use Rattle.btf_open_names.specs.name_classes.Table.{step_of}
use Rattle.btf_open_names.proofs.name_classes.Names as laws
use Rattle.btf_open_names.proofs.keys.hash.hash_name.Goals as goal

pub returns : goal.returns
returns c =
    fold_from_yields_List _ step_of c.args.start c.fold.result c.fold.ensures.ran
    (YieldsList-from_take_while _ (λ (x : ℕ). not (eqb x 0)) (YieldsList-from_slice c.args.name.now (cc)) c.take_while.ensures.closure c.take_while.ensures.done (λ x b q k. search (rules, tests)))
    (λ a x b q k. search (rules, tests))
    ∙ laws.hash_of_name c.args.start c.args.name.now

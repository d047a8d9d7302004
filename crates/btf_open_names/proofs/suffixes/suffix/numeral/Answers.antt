use Rattle.std.proofs.Common.{rules, tests, ℕ, not, eqb, ◌∙◌, ap}
use Rattle.std.proofs.lemmas.Iterator.{YieldsList-from_slice}
use Rattle.std.proofs.lemmas.Iterator.Search.{YieldsList-from_take_while}
use Rattle.btf_open_names.specs.filled_work.Takers.{numeral}
use Rattle.btf_open_names.proofs.filled_work.Bytes.{Numbers, numeral_end, numeral_more}
use Rattle.btf_open_names.proofs.name_classes.Names.{taken_name}
use Rattle.base_bytes.proofs.TryFolds.{try_fold_option_from_yields_List}
use Rattle.btf_open_names.proofs.suffixes.suffix.numeral.Goals as goal

pub returns : goal.returns
returns c =
    try_fold_option_from_yields_List _ _ _ _ c.try_fold.ensures.ran
    (YieldsList-from_take_while _ (λ (x : ℕ). not (eqb x 0)) (YieldsList-from_slice c.args.name.now (cc)) c.take_while.ensures.closure c.take_while.ensures.done (λ x b q k. search (rules, tests)))
    Numbers numeral_end
    (λ a x w q d. (search rules, numeral_more a x.now w (search rules)))
    ∙ ap numeral (taken_name c.args.name.now)

use Rattle.std.proofs.Common.{rules, tests, refl, ℕ, not, eqb, ◌∙◌, ap₂}
use Rattle.std.proofs.lemmas.Iterator.{YieldsList-from_slice}
use Rattle.std.proofs.lemmas.Iterator.Search.{YieldsList-from_take_while}
use Rattle.btf_open_names.specs.name_classes.Same.{same_list}
use Rattle.btf_open_names.proofs.name_classes.Names.{taken_name}
use Rattle.btf_open_names.proofs.keys.Equal.{same_from_yields_List}
use Rattle.btf_open_names.proofs.keys.hash.same_name.Goals as goal

pub returns : goal.returns
returns c =
    same_from_yields_List (λ x y. refl) {other = c.take_while-2.result} c.eq.ensures.ran
    (YieldsList-from_take_while _ (λ (x : ℕ). not (eqb x 0)) (YieldsList-from_slice c.args.x.now (cc)) c.take_while.ensures.closure c.take_while.ensures.done (λ x b q k. search (rules, tests)))
    (YieldsList-from_take_while _ (λ (x : ℕ). not (eqb x 0)) (YieldsList-from_slice c.args.y.now (cc)) c.take_while-2.ensures.closure c.take_while-2.ensures.done (λ x b q k. search (rules, tests)))
    ∙ ap₂ same_list (taken_name c.args.x.now) (taken_name c.args.y.now)

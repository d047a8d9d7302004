use Rattle.std.proofs.Common.{rules, tests, ◌∙◌}
use Rattle.std.specs.Prelude.{drop}
use Rattle.std.proofs.lemmas.Iterator.{YieldsList-from_slice}
use Rattle.std.proofs.lemmas.Iterator.Search.{find_from_yields_List}
use Rattle.c_dumper_padding.proofs.units.Placing.{rows, suited, placed_other, placed_eight, found_some, found_none}
use Rattle.c_dumper_padding.proofs.units.placed_pad.Goals as goal
use Rattle.c_dumper_padding.proofs.units.placed_pad.Goals.{then-ptr_sz-eq8, else-ptr_sz-eq8}

pub returns-in-Some : goal.returns-in-Some
returns-in-Some c =
    elim c.if-ptr_sz-eq8.branch [
      | then-ptr_sz-eq8 w ↦
          let e = find_from_yields_List (suited c.args.start c.args.gap) _ _ c.find-first.result c.find-first.ensures.ran (YieldsList-from_slice (rows) (rw w.from-is at c.iter.ensures.rest)) (λ x b q k. search (rules, tests)) in
          found_some c.args.start c.args.gap _ rows _ e c.in-Some.is ∙ placed_eight _ _ _ w.if-ptr_sz-eq8.true
      | else-ptr_sz-eq8 w ↦
          let e = find_from_yields_List (suited c.args.start c.args.gap) _ _ c.find-first.result c.find-first.ensures.ran (YieldsList-from_slice (drop 1 rows) (rw w.from-is at c.iter.ensures.rest)) (λ x b q k. search (rules, tests)) in
          found_some c.args.start c.args.gap _ (drop 1 rows) _ e c.in-Some.is ∙ placed_other _ _ _ w.if-ptr_sz-eq8.false
    ]

pub returns-in-None : goal.returns-in-None
returns-in-None c =
    elim c.if-ptr_sz-eq8.branch [
      | then-ptr_sz-eq8 w ↦
          let e = find_from_yields_List (suited c.args.start c.args.gap) _ _ c.find-first.result c.find-first.ensures.ran (YieldsList-from_slice (rows) (rw w.from-is at c.iter.ensures.rest)) (λ x b q k. search (rules, tests)) in
          found_none c.args.start c.args.gap _ rows e c.in-None.is ∙ placed_eight _ _ _ w.if-ptr_sz-eq8.true
      | else-ptr_sz-eq8 w ↦
          let e = find_from_yields_List (suited c.args.start c.args.gap) _ _ c.find-first.result c.find-first.ensures.ran (YieldsList-from_slice (drop 1 rows) (rw w.from-is at c.iter.ensures.rest)) (λ x b q k. search (rules, tests)) in
          found_none c.args.start c.args.gap _ (drop 1 rows) e c.in-None.is ∙ placed_other _ _ _ w.if-ptr_sz-eq8.false
    ]

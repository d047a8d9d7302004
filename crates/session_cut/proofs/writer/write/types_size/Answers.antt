use Rattle.std.proofs.Common.{arith, rules, ◌∙◌, ℕ}
use Rattle.std.proofs.lemmas.Iterator.{YieldsList-from_range, YieldsList-from_map}
use Rattle.std.proofs.lemmas.Iterator.Adapters.{fits_from_length, at_most_from_yields_List}
use Rattle.std.proofs.lemmas.Iterator.Consumers.{sum_from_yields_List}
use Rattle.std.proofs.lemmas.List.FromFn.{length-range_with_len}
use Rattle.btf_open_causes.specs.references.Bounds.{count_fits}
use Rattle.session_cut.specs.writer.Bytes.{type_size}
use Rattle.session_cut_marks.specs.kept.AtKept.{at_kept}
use Rattle.session_cut.proofs.writer.Laws.{sizes_are, tsize_most}
use Rattle.session_cut.proofs.writer.write.types_size.Goals as goal

pub sum-requires-clause-fits : goal.sum-requires-clause-fits
sum-requires-clause-fits c =
    let n : ℕ = c.count.result in
    fits_from_length _ _ 262145 18446744073709551616 (at_most_from_yields_List (YieldsList-from_range 0 n n c.map.ensures.source (omega arith)) (omega (arith, length-range_with_len 0 n, c.count.ensures, count_fits c.args.kept.now.index.table.head))) c.map.ensures.closure (omega arith) (λ x r q k. search (rules, tsize_most))

pub returns : goal.returns
returns c =
    let n : ℕ = c.count.result in
    sum_from_yields_List _ c.sum.result c.sum.ensures.ran (YieldsList-from_map _ (λ (x : ℕ). at_kept type_size c.args.kept.now x 0) (YieldsList-from_range 0 n n c.map.ensures.source (omega arith)) c.map.ensures.closure (λ x r q k. search rules)) ∙ sizes_are _ _ _ _ n c.count.ensures

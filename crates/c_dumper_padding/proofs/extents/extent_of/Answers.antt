use Rattle.std.proofs.Common.{rules, refl}
use Rattle.base_bytes.proofs.TryFolds.{try_fold_result_from_yields_List}
use Rattle.c_dumper_padding.proofs.extents.Laws.{Measures, extent_end, extent_more, read_members}
use Rattle.c_dumper_padding.specs.extents.Steps.{extent_is}
use Rattle.std.proofs.lemmas.Iterator.{YieldsList-from_range, YieldsList-from_map}
use Rattle.std.specs.Result.{result_from_control_flow}
use Rattle.spec_type_table.specs.Table.{btf_of}
use Rattle.spec_type_table.specs.Records.{member_of, vlen_of}
use Rattle.spec_c_dumper.specs.rules.Placing.{extent_of, no_extent}
use native.Mathlib.Omega.{arith}
use mathlib.Core.Path.{◌∙◌, ap}
use Rattle.c_dumper_padding.proofs.extents.extent_of.Goals as goal

pub returns : goal.returns
unfolding extent_is
returns c =
    let h = c.args.b.now.head in
    let s = c.args.b.now.section.now in
    let B = btf_of h s c.args.work.now in
    let body = c.args.body in
    try_fold_result_from_yields_List _ result_from_control_flow (λ e. e.0) (λ c. refl) (λ e. refl) _ _ _ c.try_fold.ensures.ran
    (YieldsList-from_map _ (member_of h s c.args.t) (YieldsList-from_range 0 c.vlen_of.result (vlen_of c.args.t.info) c.map.ensures.source (omega arith)) c.map.ensures.closure (λ x r q k. search rules))
    (Measures B h s body.in_struct body.packed) (extent_end B h s body.in_struct body.packed)
    (λ x m r q d. (search rules, extent_more B h s body.in_struct body.packed x m r (search rules)))
    ∙ ap (extent_of B body.in_struct body.packed no_extent) (read_members B h s body.in_struct body.packed c.args.t)

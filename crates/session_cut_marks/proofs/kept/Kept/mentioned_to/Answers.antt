use native.Mathlib.Omega.{arith}
use mathlib.Core.Path.{refl, ◌∙◌}
use Rattle.std.proofs.Common.{rules}
use Rattle.std.proofs.lemmas.Iterator.{YieldsList-from_range}
use Rattle.std.proofs.lemmas.Iterator.Search.{any_from_yields_List}
use Rattle.session_cut_marks.specs.mentioned.Names.{mentions}
use Rattle.session_cut_marks.proofs.mentioned.Laws.{any_mentioned}
use Rattle.session_cut_marks.proofs.kept.Kept.mentioned_to.Goals as goal

pub returns : goal.returns
returns c =
    let kept = c.args.self.now in
    any_from_yields_List (mentions kept.index.table.head kept.index.table.section.now kept.index.start.now kept.ids.now c.args.off) _ _ c.any.result c.any.ensures.ran (YieldsList-from_range 0 c.args.x c.args.x refl (omega arith)) (λ x b q k. search rules)
    ∙ any_mentioned kept.index.table.head kept.index.table.section.now kept.index.start.now kept.ids.now c.args.off c.args.x

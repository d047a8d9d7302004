use native.Mathlib.Omega.{arith}
use mathlib.Core.Path.{refl, ◌∙◌}
use Rattle.std.proofs.Common.{rules}
use Rattle.std.proofs.lemmas.Iterator.{YieldsList-from_range}
use Rattle.std.proofs.lemmas.Iterator.Search.{any_from_yields_List}
use Rattle.session_cut_marks.specs.mentioned.Names.{is_name}
use Rattle.session_cut_marks.proofs.mentioned.Laws.{any_named}
use Rattle.session_cut_marks.proofs.mentioned.names.named_to.Goals as goal

pub returns : goal.returns
returns c =
    any_from_yields_List (is_name c.args.b.now.head c.args.b.now.section.now c.args.e.word c.args.off) _ _ c.any.result c.any.ensures.ran (YieldsList-from_range 0 c.args.n c.args.n refl (omega arith)) (λ x b q k. search rules)
    ∙ any_named c.args.b.now.head c.args.b.now.section.now c.args.e.word c.args.off c.args.n

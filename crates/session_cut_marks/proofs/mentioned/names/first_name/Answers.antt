use native.Mathlib.Omega.{arith}
use mathlib.Core.Path.{refl}
use Rattle.std.proofs.Common.{rules}
use Rattle.std.proofs.lemmas.Iterator.{YieldsList-from_range}
use Rattle.std.proofs.lemmas.Iterator.Search.{find_from_yields_List}
use Rattle.session_cut_marks.specs.mentioned.Names.{is_name}
use Rattle.session_cut_marks.proofs.mentioned.Laws.{first_found}
use Rattle.session_cut_marks.proofs.mentioned.names.first_name.Goals as goal

pub returns : goal.returns
returns c =
    first_found c.args.b.now.head c.args.b.now.section.now c.args.e.word c.args.off c.args.n _
    (find_from_yields_List (is_name c.args.b.now.head c.args.b.now.section.now c.args.e.word c.args.off) _ _ c.find.result c.find.ensures.ran (YieldsList-from_range 0 c.args.n c.args.n refl (omega arith)) (λ x b q k. search rules))

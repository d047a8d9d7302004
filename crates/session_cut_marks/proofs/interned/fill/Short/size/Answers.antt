use Rattle.session_cut_marks.proofs.mentioned.Laws.{name_short}
use native.Mathlib.Omega.{arith}
use mathlib.Core.Path.{ap}
use lib.ListN.{length}
use Rattle.session_cut_marks.proofs.interned.fill.Short.size.Goals as goal

pub overflow_cast-result : goal.overflow_cast-result
overflow_cast-result c = omega (arith, c.args.self.now.short, ap length c.get_btf_str.ensures, name_short c.args.self.now.kept.index.table.head c.args.self.now.kept.index.table.section.now c.args.off)

pub overflow_add-result : goal.overflow_add-result
overflow_add-result c = omega (arith, c.args.self.now.short, ap length c.get_btf_str.ensures, name_short c.args.self.now.kept.index.table.head c.args.self.now.kept.index.table.section.now c.args.off)

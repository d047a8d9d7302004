use Rattle.session_cut.proofs.writer.Strings.{told_new, told_other, long_none, long_is}
use Rattle.session_cut_marks.proofs.interned.Found.{length_few}
use Rattle.session_cut_marks.proofs.mentioned.Laws.{name_short}
use native.Mathlib.Omega.{arith}
use mathlib.Core.Path.{sym, ◌∙◌, ap}
use lib.ListN.{length}
use Rattle.session_cut.proofs.writer.source.Mention.longer.Goals as goal

pub returns-in_default : goal.returns-in_default
returns-in_default c = let m = c.args.self.now in long_none _ _ _ _ _ _ _ (sym m.first ∙ told_other _ c.in_default.not-New) _ m.so_far

pub overflow_cast-result : goal.overflow_cast-result
overflow_cast-result c =
    let source = c.args.self.now.of.source.now in
    omega (arith, source.right.short, ap length c.get_btf_str.ensures, name_short source.kept.index.table.head source.kept.index.table.section.now c.word.result)

pub overflow_add-result : goal.overflow_add-result
overflow_add-result c =
    let m = c.args.self.now in
    let source = m.of.source.now in
    omega (arith, source.right.short, length_few _ _ _ _ _ source.right _ _ m.of.kept m.j m.len (omega (arith, m.inside)) m.so_far, ap length c.get_btf_str.ensures, name_short source.kept.index.table.head source.kept.index.table.section.now c.word.result)

pub overflow_add-result-2 : goal.overflow_add-result-2
overflow_add-result-2 c =
    let m = c.args.self.now in
    let source = m.of.source.now in
    omega (arith, source.right.short, length_few _ _ _ _ _ source.right _ _ m.of.kept m.j m.len (omega (arith, m.inside)) m.so_far, ap length c.get_btf_str.ensures, name_short source.kept.index.table.head source.kept.index.table.section.now c.word.result)

pub returns : goal.returns
returns c = let m = c.args.self.now in long_is _ _ _ _ _ _ _ (sym m.first ∙ told_new _ c.in-New.is) _ c.word.ensures _ m.so_far _ c.get_btf_str.ensures

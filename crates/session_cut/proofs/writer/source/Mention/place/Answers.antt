use Rattle.session_cut.proofs.writer.Laws.{new_at}
use Rattle.session_cut.proofs.writer.Strings.{told_new}
use Rattle.session_cut.specs.writer.Bytes.{told_place}
use mathlib.Core.Path.{ap}
use Rattle.session_cut.proofs.writer.source.Mention.place.Goals as goal

pub returns-in-New : goal.returns-in-New
returns-in-New c =
    let m = c.args.self.now in
    let source = m.of.source.now in
    new_at _ _ _ _ _ source.right _ source.based _ _ m.of.kept _ _ m.inside m.so_far _ m.first (told_new _ c.in-New.is)

pub returns-in-At : goal.returns-in-At
returns-in-At c = c.args.self.now.in_table _ (ap told_place c.in-At.is)

use Rattle.std.proofs.Common.{rules, tests, ℕ}
use mathlib.Core.Path.{◌∙◌, ap}
use Rattle.session_cut_marks.specs.mentioned.Names.{place_from}
use Rattle.session_cut_marks.specs.tags.Tags.{some_number}
use Rattle.session_cut.proofs.writer.Found.{found_is}
use Rattle.session_cut.proofs.writer.source.Source.place_from.Goals as goal

pub returns : goal.returns
returns c =
    let k = c.args.self.now.kept in
    found_is _ _ _ _ _ _ _ _ (λ x r q h. search (rules, tests)) _ _ c.find_map.ensures.runs
    ∙ ap (λ (n : ℕ). some_number (place_from k.index.table.head k.index.table.section.now k.index.start.now k.ids.now c.args.self.now.bases.now c.args.off 0 n)) c.count.ensures

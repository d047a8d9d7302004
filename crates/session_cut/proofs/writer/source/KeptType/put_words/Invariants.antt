use Rattle.session_cut_marks.specs.kept.AtKept.{at_kept}
use Rattle.session_cut.specs.writer.Bytes.{words_part}
use Rattle.session_cut.specs.writer.OfType.{length_before}
use Rattle.spec_bytes.specs.text.Text.{whole}
use Rattle.spec_bytes.specs.text.Placed.{put_out, put_text}
use mathlib.Core.Path.{◌≡◌}
use Rattle.std.specs.Prelude.{Ok}
use Rattle.session_cut.proofs.writer.source.KeptType.put_words.Given as goal

abbrev pub invariant-loop-j : goal.invariant-loop-j
invariant-loop-j l =
    let source = l.self.source.now in
    (put_out (Ok l.p) l.out ≡ put_text l.initial.out (Ok l.at) (whole (at_kept words_part source.kept source.bases.now l.part l.self.x l.self.e.word l.j)))
    × (l.len ≡ length_before l.self l.j)

use Rattle.session_cut.specs.writer.Bytes.{part_bytes}
use Rattle.spec_bytes.specs.text.Text.{whole}
use Rattle.spec_bytes.specs.text.Placed.{put_out, put_text}
use mathlib.Core.Path.{◌≡◌}
use Rattle.std.specs.Prelude.{Ok}
use Rattle.session_cut.proofs.writer.source.Source.put_part.Given as goal

abbrev pub invariant-loop-x : goal.invariant-loop-x
invariant-loop-x l = let k = l.self.kept in put_out (Ok l.p) l.out ≡ put_text l.initial.out (Ok l.at) (whole (part_bytes k.index.table.head k.index.table.section.now k.index.start.now k.ids.now l.self.bases.now l.part l.x))

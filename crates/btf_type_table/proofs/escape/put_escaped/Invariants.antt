use mathlib.Core.Path.{◌≡◌}
use lib.ListN.{length}
use Rattle.std.specs.Prelude.{Ok}
use Rattle.spec_bytes.specs.text.Text.{whole}
use Rattle.spec_bytes.specs.text.Placed.{put_out, put_text}
use Rattle.spec_type_table.proofs.NameLaws as names
use Rattle.btf_type_table.proofs.escape.put_escaped.Given as goal

abbrev pub invariant-loop-c : goal.invariant-loop-c
invariant-loop-c l = (put_out (Ok l.p) l.text ≡ put_text l.initial.text (Ok l.at) (whole (names.escaped_first l.name l.c-index))) × (length l.text ≡ length l.initial.text)

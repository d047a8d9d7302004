use Rattle.std.specs.Prelude.{Ok}
use Rattle.c_dumper_bodies.specs.chain.Chains.{mods_down}
use Rattle.spec_bytes.specs.text.Text.{whole}
use Rattle.spec_bytes.specs.text.Placed.{put_text}
use mathlib.Core.Path.{◌≡◌}
use Rattle.c_dumper_bodies.proofs.modifiers.emit_mods.Given as goal

abbrev pub invariant-loop-k : goal.invariant-loop-k
invariant-loop-k l = put_text l.text (Ok l.p) (whole (mods_down l.b.head l.b.section.now l.work l.start l.m l.k)) ≡ put_text l.initial.text (Ok l.at) (whole (mods_down l.b.head l.b.section.now l.work l.start l.m l.n))

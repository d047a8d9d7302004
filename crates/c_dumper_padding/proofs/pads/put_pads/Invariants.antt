use lib.ListN.{length}
use Rattle.std.specs.Prelude.{Ok}
use mathlib.Core.Path.{◌≡◌}
use Rattle.c_dumper_padding.proofs.pads.Laws.{Goes}
use Rattle.c_dumper_padding.specs.units.Units.{pads_by}
use Rattle.spec_c_dumper.specs.rules.Decl.{pads}
use Prim.Native.Nat.{◌-◌, ◌<◌}
use Rattle.c_dumper_padding.proofs.pads.put_pads.Given as goal

abbrev pub invariant-loop-s : goal.invariant-loop-s
invariant-loop-s l = (length l.text ≡ length l.initial.text) × (l.end < 18446744073709551616) × Goes l.initial.text (Ok l.at) (pads l.lvl (pads_by l.placing l.ptr_sz l.start (l.end - l.start))) l.text (Ok l.p) (pads l.lvl (pads_by l.placing l.ptr_sz l.s (l.end - l.s)))

abbrev pub decreases-loop-s : goal.decreases-loop-s
decreases-loop-s l = l.end - l.s

use Rattle.c_dumper_name_versions.proofs.tags.Tags.{TagsLeft}
use lib.ListN.{length}
use Rattle.std.specs.Prelude.{Ok}
use mathlib.Core.Path.{◌≡◌}
use Prim.Native.Nat.{◌<◌, ◌-◌}
use Rattle.c_dumper_name_versions.proofs.tags.emit_tag_list.Given as goal

abbrev pub invariant-loop-last : goal.invariant-loop-last
invariant-loop-last l = (length l.text ≡ length l.initial.text) × (l.tag < 4294967296) × (l.last < 4294967296) × TagsLeft l.b.head l.b.section.now l.work l.id l.comp_idx l.initial.text (Ok l.at) l.text (Ok l.p) l.last l.tag

abbrev pub decreases-loop-last : goal.decreases-loop-last
decreases-loop-last l = 4294967296 - l.last

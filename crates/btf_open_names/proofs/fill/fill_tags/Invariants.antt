use Rattle.btf_open_names.specs.filled_work.Left.{tags_put}
use lib.ListN.{length}
use mathlib.Core.Path.{◌≡◌}
use Prim.Native.Nat.{◌-◌}
use Rattle.btf_open_names.proofs.fill.fill_tags.Given as goal

abbrev pub invariant-loop-x : goal.invariant-loop-x
invariant-loop-x l = (tags_put l.i.table.head l.i.table.section.now l.i.start.now (l.i.table.head.types - 1) l.initial.work ≡ tags_put l.i.table.head l.i.table.section.now l.i.start.now (l.x - 1) l.work) × (length l.work ≡ length l.initial.work)

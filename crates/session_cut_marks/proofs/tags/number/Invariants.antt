use Rattle.session_cut_marks.specs.tags.Tags.{numbered, numbered_to}
use Prim.Native.Nat.{◌≤◌}
use mathlib.Core.Path.{◌≡◌}
use Rattle.session_cut_marks.proofs.tags.number.Given as goal

abbrev pub invariant-loop-x : goal.invariant-loop-x
invariant-loop-x l = (numbered l.ids l.c ≡ numbered_to (numbered l.initial.ids 0) l.x) × (l.c ≤ l.x)

use mathlib.Core.Path.{◌≡◌}
use Prim.Native.Nat.{◌-◌, ◌≤◌}
use Rattle.session_record.specs.record_words.Words.{unused_zero}
use Rattle.session_record.proofs.record_words.clear_unused.Given as goal

abbrev pub invariant-loop-i : goal.invariant-loop-i
invariant-loop-i l = (9 ≤ l.i) × (l.record ≡ unused_zero (l.i - 9) l.initial.record)

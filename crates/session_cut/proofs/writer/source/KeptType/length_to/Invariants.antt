use mathlib.Core.Path.{◌≡◌}
use Rattle.session_cut.specs.writer.OfType.{length_before}
use Rattle.session_cut.proofs.writer.source.KeptType.length_to.Given as goal

abbrev pub invariant-loop-j : goal.invariant-loop-j
invariant-loop-j l = l.len ≡ length_before l.self l.j

use Rattle.c_dumper_bodies.proofs.enumerators.Values.{deeper_is}
use mathlib.Core.Path.{◌∙◌}
use native.Mathlib.Omega.{arith}
use Rattle.c_dumper_bodies.proofs.enumerators.deeper.Goals as goal

pub returns : goal.returns
returns c = c.saturating_add.ensures ∙ deeper_is _ (omega arith)

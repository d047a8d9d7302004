use mathlib.Core.Path.{refl}
use Rattle.std.proofs.Common.{rules}
use Rattle.btf_open_names.specs.name_classes.Classes.{noughts}
use Rattle.btf_open_names.proofs.name_classes.Fill as fills
use Rattle.btf_open_names.proofs.holders.clear.Goals as goal

pub loop-k-init : goal.loop-k-init
loop-k-init c = (refl, fills.fill_none _ _ _)

pub loop-k-preserved : goal.loop-k-preserved
loop-k-preserved c = (search rules, fills.fill_more _ noughts _ _ _ _ c.loop-k.invariant.1 c.put.ensures)

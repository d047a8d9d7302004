use native.Mathlib.Omega.{arith}
use mathlib.Core.Path.{refl, ap, ◌∙◌}
use Rattle.spec_type_table.specs.Cells.{put_field}
use Rattle.btf_open_names.proofs.filled_work.Filled.{places_none, places_more}
use Rattle.std.proofs.Common.{rules}
use Rattle.btf_open_names.proofs.fill.fill_places.Goals as goal

pub loop-x-init : goal.loop-x-init
loop-x-init c = (places_none _ _, omega arith, refl)

pub loop-x-preserved : goal.loop-x-preserved
loop-x-preserved c = (places_more _ _ _ c.loop-x.x c.loop-x.invariant.0 c.loop-x.auto.x _ c.entry_of.ensures _ (c.put_field.ensures ∙ ap (put_field _ _ 0) c.place.ensures), omega arith, search rules)

use native.Mathlib.Omega.{arith}
use mathlib.Core.Path.{refl}
use Rattle.btf_open_names.proofs.filled_work.Filled.{enums_none, first_none, first_more, enums_more, few_of}
use Rattle.std.proofs.Common.{rules}
use Rattle.btf_open_names.proofs.fill.fill_enums.Goals as goal

pub loop-x-init : goal.loop-x-init
loop-x-init c = (enums_none _ _ _ _, first_none _ _ _ c.args.work.now, omega arith, omega arith, refl)

pub fill_enum-requires : goal.fill_enum-requires
fill_enum-requires c = omega arith

pub loop-x-preserved : goal.loop-x-preserved
loop-x-preserved c = (enums_more _ _ _ _ c.loop-x.x c.loop-x.auto.x _ c.entry_of-e.ensures _ c.values_at-n.ensures _ c.loop-x.invariant.1 _ c.loop-x.invariant.0 _ c.fill_enum.ensures, first_more _ _ _ c.args.work.now c.loop-x.x c.loop-x.auto.x _ c.entry_of-e.ensures _ c.values_at-n.ensures _ c.loop-x.invariant.1, omega arith, omega (arith, few_of _ _ _ _ c.values_at-n.ensures), search rules)

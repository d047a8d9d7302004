use native.Mathlib.Omega.{arith}
use Prim.Native.Nat.{◌-◌}
use Rattle.btf_open_names.proofs.filled_work.Filled.{tags_more, tags_all}
use Rattle.std.proofs.Common.{rules}
use Rattle.btf_open_names.proofs.fill.fill_tags.Goals as goal

pub loop-x-preserved : goal.loop-x-preserved
loop-x-preserved c = (tags_more _ _ _ _ _ _ c.loop-x.x c.loop-x.invariant.0 c.loop-x-test.true _ c.entry_of.ensures _ c.fill_tag.ensures, search rules)

pub returns : goal.returns
returns c = tags_all _ _ _ _ _ _ (c.loop-x.x - 1) c.loop-x.invariant.0 (omega arith)

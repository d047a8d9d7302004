use mathlib.Core.Path.{◌≡◌, ◌∙◌}
use lib.ListN.{length}
use Prim.Native.Nat.{◌<◌, ◌≤◌}
use native.Mathlib.Omega.{arith}
use Rattle.std.proofs.Common.{rules}
use Rattle.session_declaration_reader.proofs.bases.ItemLaws as items
use Rattle.session_declaration_reader.proofs.bases.items.Chain.put_quals.Goals as goal

pub loop-qualifier-preserved : goal.loop-qualifier-preserved
loop-qualifier-preserved c =
    let k : length c.args.q.list ≡ 3 = search rules in
    let h : c.loop-qualifier.qualifier-index < length c.args.q.list = omega (arith, k, c.loop-qualifier-test.true) in
    (items.quals_turn _ _ h _ _ _ _ c.put_qual.ensures.stored _ c.loop-qualifier.invariant.0, c.put_qual.ensures.same ∙ c.loop-qualifier.invariant.1)

pub returns-clause-stored : goal.returns-clause-stored
returns-clause-stored c =
    let k : length c.args.q.list ≡ 3 = search rules in
    let h : length c.args.q.list ≤ c.loop-qualifier.qualifier-index = omega (arith, k, c.loop-qualifier-test.false) in
    items.quals_over _ _ h _ _ _ c.loop-qualifier.invariant.0

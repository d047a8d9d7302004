use Rattle.std.proofs.Common.{arith}
use Rattle.btf_open_causes.proofs.references.Accessors.{followed_is, id_told}
use Rattle.btf_open_causes.proofs.prototypes.Held.{asks_is, part_yes, part_no, part_more}
use Rattle.btf_open_causes.proofs.prototypes.asks_of.Goals as goal

pub returns-then-ask : goal.returns-then-ask
returns-then-ask c = part_yes _ _ _ _ _ (asks_is _ _ _ _ _ c.entry-e.ensures _ c.asks-k-end.ensures) _ _ _ _ c.loop-k-test.true (followed_is _ _ _ _ c.entry-e.ensures _ _ _ (id_told _ _ _ _ c.place.ensures _ _ (c.id_at.ensures _ c.kind.ensures))) c.ask.ensures c.if-ask.true

pub loop-k-preserved : goal.loop-k-preserved
loop-k-preserved c = (c.ask.ensures.rest, part_more _ _ _ _ _ _ _ _ (followed_is _ _ _ _ c.entry-e.ensures _ _ _ (id_told _ _ _ _ c.place.ensures _ _ (c.id_at.ensures _ c.kind.ensures))) c.ask.ensures c.if-ask.false c.loop-k.invariant.1)

pub returns : goal.returns
returns c = part_no _ _ _ _ _ (asks_is _ _ _ _ _ c.entry-e.ensures _ c.asks-k-end.ensures) _ _ (omega arith) c.loop-k.invariant.0 c.loop-k.invariant.1

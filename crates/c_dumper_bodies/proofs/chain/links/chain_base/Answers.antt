use Rattle.std.proofs.lemmas.Bool.{not_from_true, not_from_false}
use Rattle.c_dumper_bodies.proofs.chain.Paths.{len_start, len_turn, len_got, len_deep}
use native.Mathlib.Omega.{arith}
use Rattle.c_dumper_bodies.proofs.chain.links.chain_base.Goals as goal

pub loop-n-init : goal.loop-n-init
loop-n-init c = len_start c.args.b.now.head _ _ _

pub returns-then-not-is_link : goal.returns-then-not-is_link
returns-then-not-is_link c = len_got c.args.b.now.head _ _ _ _ _ _ c.type_by_id-t.ensures _ c.of.ensures _ c.is_link.ensures c.loop-n.invariant (omega arith) (not_from_false _ c.if-not-is_link.true)

pub loop-n-preserved : goal.loop-n-preserved
loop-n-preserved c = len_turn c.args.b.now.head _ _ _ _ _ _ c.type_by_id-t.ensures _ c.of.ensures _ c.is_link.ensures _ c.loop-n.invariant (omega arith) (not_from_true _ c.if-not-is_link.false) c.next_of-id.ensures

pub returns : goal.returns
returns c = len_deep c.args.b.now.head _ _ _ _ _ c.loop-n.invariant (omega arith)

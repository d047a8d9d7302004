use Rattle.c_dumper_bodies.proofs.chain.Paths.{mods_end, mods_turn}
use mathlib.Core.Path.{◌∙◌}
use Rattle.spec_bytes.proofs.text.TextLaws.{put_past, put_ended}
use native.Mathlib.Omega.{arith}
use Rattle.c_dumper_bodies.proofs.modifiers.emit_mods.Goals as goal

pub loop-k-preserved : goal.loop-k-preserved
loop-k-preserved c = mods_turn c.args.b.now.head _ _ _ _ _ _ _ _ _ _ c.loop-k.invariant _ _ _ _ _ _ (omega arith) c.loop-k-test.true c.kind_at.ensures c.in_ok-a.ensures c.in_ok-p.ensures

pub returns : goal.returns
returns c = mods_end c.args.b.now.head _ _ _ _ _ _ _ _ _ _ c.loop-k.invariant c.loop-k-test.false

pub returns-in_err-a : goal.returns-in_err-a
returns-in_err-a c = put_ended _ _ _ _ c.from_residual.ensures.1 ∙ mods_turn c.args.b.now.head _ _ _ _ _ _ _ _ _ _ c.loop-k.invariant _ _ _ _ _ _ (omega arith) c.loop-k-test.true c.kind_at.ensures c.in_err-a.ensures (put_past _ _ _)

pub returns-in_err-p : goal.returns-in_err-p
returns-in_err-p c = put_ended _ _ _ _ c.from_residual-in_err-p.ensures.1 ∙ mods_turn c.args.b.now.head _ _ _ _ _ _ _ _ _ _ c.loop-k.invariant _ _ _ _ _ _ (omega arith) c.loop-k-test.true c.kind_at.ensures c.in_ok-a.ensures c.in_err-p.ensures

use Rattle.c_dumper_emit.proofs.emit_type.Listed as laws
use Rattle.c_dumper_emit.proofs.entries.Laws.{same_lent}
use mathlib.Core.Path.{refl, ◌∙◌}
use Rattle.c_dumper_emit.proofs.emission.Emission.emit_ordered.Goals as goal

pub loop-k-init : goal.loop-k-init
loop-k-init c = (refl, laws.listing_start _ _ _ _ _ _ _ _ _)

pub loop-k-preserved : goal.loop-k-preserved
loop-k-preserved c = (c.emit_type.auto.list ∙ c.loop-k.invariant.0, laws.listing_turn _ _ _ _ _ _ _ _ _ _ _ _ _ _ c.loop-k.invariant.1 c.loop-k-test.true _ c.get_listed-id.ensures _ (same_lent _ _ _ c.loop-k.invariant.0) _ _ _ _ (c.in_ok-a.ensures c.args.n))

pub returns : goal.returns
returns c = laws.listing_end _ _ _ _ _ _ _ _ _ _ _ _ _ _ c.loop-k.invariant.1 c.loop-k-test.false

pub returns-in_err-a : goal.returns-in_err-a
returns-in_err-a c = laws.listing_halts _ _ _ _ _ _ _ _ _ _ _ _ _ _ (laws.listing_turn _ _ _ _ _ _ _ _ _ _ _ _ _ _ c.loop-k.invariant.1 c.loop-k-test.true _ c.get_listed-id.ensures _ (same_lent _ _ _ c.loop-k.invariant.0) _ _ _ _ (c.in_err-a.ensures c.args.n)) _ c.from_residual.ensures.1

use Rattle.c_dumper_emit.proofs.emission.Emission.emit_leaf.Goals.{then-fwd-via-then-fwd, then-fwd-via-else-fwd+then-cont-eq0}
use mathlib.Core.Path.{refl}
use borrow.Author.Tests.{eq-eqb, ne_eqb}
use Rattle.std.proofs.Math.Bool.{or-true}
use Rattle.c_dumper_emit.proofs.entries.Laws as laws
use Rattle.c_dumper_emit.proofs.entries.Walk as walk
use Rattle.c_dumper_emit.proofs.emission.Emission.emit_leaf.Goals as goal

pub returns-then-fwd : goal.returns-then-fwd
returns-then-fwd c = λ n. walk.leaf_shown _ _ _ _ n _ _ _ _ _ _ _ c.requires _ (elim c.then-fwd.branch [
  | then-fwd-via-then-fwd w ↦ rw (w.if-fwd.true) refl
  | then-fwd-via-else-fwd+then-cont-eq0 w ↦ rw (eq-eqb c.args.cont 0 w.if-cont-eq0.true) (or-true _)
]) _ (laws.cause_by _ _ _ _ _ _ c.from.ensures c.origin_at-e.ensures) _ (c.in_ok-a.ensures n) _ (laws.state_last n _ _ _ _ _ _ _ c.set_mark.ensures)

pub returns-in_err-a : goal.returns-in_err-a
returns-in_err-a c = λ n. walk.leaf_shown _ _ _ _ n _ _ _ _ _ _ _ c.requires _ (elim c.then-fwd.branch [
  | then-fwd-via-then-fwd w ↦ rw (w.if-fwd.true) refl
  | then-fwd-via-else-fwd+then-cont-eq0 w ↦ rw (eq-eqb c.args.cont 0 w.if-cont-eq0.true) (or-true _)
]) _ (laws.cause_by _ _ _ _ _ _ c.from.ensures c.origin_at-e.ensures) _ (c.in_err-a.ensures n) _ (laws.ended n _ _ _ _ _ _ c.from_residual.ensures.1)

pub returns : goal.returns
returns c = λ n. walk.leaf_quiet _ _ _ _ n _ _ _ _ _ _ _ c.requires _ (rw (c.if-fwd.false, ne_eqb c.args.cont 0 c.if-cont-eq0.false) refl) _ c.set_mark-2.ensures

use Rattle.c_dumper_emit.proofs.emission.Emission.+emit_type.Goals.{emit_composite-else-named-via-then-named+else-cont-ne0, emit_composite-else-named-via-else-named, emit_type-else-cont-eq0-via-then-cont-eq0+else-not-named, emit_type-else-cont-eq0-via-else-cont-eq0}
use mathlib.Core.Bool.{not}
use mathlib.Core.Path.{refl, ap, ◌∙◌, sym}
use borrow.Author.Tests.{eq-eqb, ne_eqb}
use Rattle.std.proofs.lemmas.Bool.{and_left, and_right}
use Rattle.c_dumper_dependency_order.specs.order_state.Work.{mark_is}
use Rattle.c_dumper_emit.proofs.entries.Laws as laws
use Rattle.c_dumper_emit.proofs.entries.Walk as walk
use Rattle.c_dumper_emit.proofs.emit_type.Listed as listed
use Rattle.c_dumper_emit.proofs.emit_type.Walk as new
use Rattle.c_dumper_dependency_order.proofs.order_type.Laws as order
use native.Mathlib.Omega.{arith}
use Rattle.c_dumper_emit.proofs.emission.Emission.+emit_type.Goals as goal

pub emit_composite-returns-then-cont-ne0 : goal.emit_composite-returns-then-cont-ne0
emit_composite-returns-then-cont-ne0 t c = λ n. new.composite_mention _ _ _ _ n _ _ _ _ _ _ _ _ c.requires _ c.is_named-named.ensures _ (rw (c.if-named.true, ne_eqb c.args.cont 0 c.if-cont-ne0.true) refl) _ (c.mention_composite.ensures n)

pub emit_composite-returns : goal.emit_composite-returns
emit_composite-returns t c = λ n. new.composite_entries _ _ _ _ _ _ _ _ _ _ _ _ c.entries_of-members.ensures (new.composite_ends _ _ _ _ n _ _ _ _ _ _ _ _ c.requires _ c.is_named-named.ensures _ (elim c.else-named.branch [
  | emit_composite-else-named-via-then-named+else-cont-ne0 w ↦ and_right _ _ (ap not (eq-eqb c.args.cont 0 w.if-cont-ne0.false))
  | emit_composite-else-named-via-else-named w ↦ and_left _ _ w.if-named.false
]) _ c.set_mark.ensures _ c.inner-within.ensures _ _ _ _ (rw order.members_are at c.in_ok-a.ensures n) _ (laws.same_lent _ _ _ c.emit_entries.auto.list) _ (c.end_composite.ensures n))

pub emit_composite-returns-in_err-a : goal.emit_composite-returns-in_err-a
emit_composite-returns-in_err-a t c = λ n. new.composite_entries _ _ _ _ _ _ _ _ _ _ _ _ c.entries_of-members.ensures (new.composite_ends _ _ _ _ n _ _ _ _ _ _ _ _ c.requires _ c.is_named-named.ensures _ (elim c.else-named.branch [
  | emit_composite-else-named-via-then-named+else-cont-ne0 w ↦ and_right _ _ (ap not (eq-eqb c.args.cont 0 w.if-cont-ne0.false))
  | emit_composite-else-named-via-else-named w ↦ and_left _ _ w.if-named.false
]) _ c.set_mark.ensures _ c.inner-within.ensures _ _ _ _ (rw order.members_are at c.in_err-a.ensures n) _ (laws.same_lent _ _ _ c.emit_entries.auto.list) _ (laws.ended n _ _ _ _ _ _ c.from_residual.ensures.1))

pub emit_entries-loop-k-init : goal.emit_entries-loop-k-init
emit_entries-loop-k-init t c = (refl, λ n. walk.rest_start _ _ _ _ _ _ _ _ n _ _ _ _)

pub emit_entries-loop-k-preserved-then-is_emitted : goal.emit_entries-loop-k-preserved-then-is_emitted
emit_entries-loop-k-preserved-then-is_emitted t c = (c.loop-k.invariant.0, λ n. walk.rest_skip _ _ _ _ _ _ _ _ n _ _ _ _ _ _ _ _ _ (c.loop-k.invariant.1 n) _ c.entry_type-t.ensures _ c.is_emitted.ensures c.if-is_emitted.true (omega arith))

pub emit_entries-loop-k-preserved : goal.emit_entries-loop-k-preserved
emit_entries-loop-k-preserved t c = (c.emit_type.auto.list ∙ c.loop-k.invariant.0, λ n. walk.rest_turn _ _ _ _ _ _ _ _ n _ _ _ _ _ _ _ _ _ (c.loop-k.invariant.1 n) _ c.entry_type-t.ensures _ (laws.same_lent _ _ _ c.loop-k.invariant.0) _ _ _ _ (c.in_ok-a.ensures n) (omega arith))

pub emit_entries-returns : goal.emit_entries-returns
emit_entries-returns t c = λ n. listed.entries_end _ _ _ _ _ _ _ _ n _ _ _ _ _ _ _ _ (c.loop-k.invariant.1 n) _ c.count-k-end.ensures c.loop-k-test.false

pub emit_entries-returns-in_err-a : goal.emit_entries-returns-in_err-a
emit_entries-returns-in_err-a t c = λ n. listed.entries_halt _ _ _ _ _ _ _ _ n _ _ _ _ _ _ _ _ (walk.rest_turn _ _ _ _ _ _ _ _ n _ _ _ _ _ _ _ _ _ (c.loop-k.invariant.1 n) _ c.entry_type-t.ensures _ (laws.same_lent _ _ _ c.loop-k.invariant.0) _ _ _ _ (c.in_err-a.ensures n) (omega arith)) _ c.from_residual.ensures.1

pub emit_new-returns-in-Ignored : goal.emit_new-returns-in-Ignored
emit_new-returns-in-Ignored t c = λ n. new.new_none _ _ _ _ n _ _ _ _ _ _ _ _ c.requires _ c.node_of.ensures _ c.in-Ignored.is refl

pub emit_new-returns-in-Enum : goal.emit_new-returns-in-Enum
emit_new-returns-in-Enum t c = λ n. new.new_enum _ _ _ _ n _ _ _ _ _ _ _ _ c.requires _ c.node_of.ensures _ c.in-Enum.is (c.emit_leaf.ensures n)

pub emit_new-returns-in-Fwd : goal.emit_new-returns-in-Fwd
emit_new-returns-in-Fwd t c = λ n. new.new_fwd _ _ _ _ n _ _ _ _ _ _ _ _ c.requires _ c.node_of.ensures _ c.in-Fwd.is (c.emit_leaf-in-Fwd.ensures n)

pub emit_new-returns-in-Array : goal.emit_new-returns-in-Array
emit_new-returns-in-Array t c = λ n. new.new_on _ _ _ _ n _ _ _ _ _ _ _ _ c.requires _ c.node_of.ensures _ _ c.in-Array.is (c.emit_type-in-Array.ensures n)

pub emit_new-returns-in_ok-a-in-Typedef : goal.emit_new-returns-in_ok-a-in-Typedef
emit_new-returns-in_ok-a-in-Typedef t c = λ n. new.new_typedef _ _ _ _ n _ _ _ _ _ _ _ _ c.requires _ c.node_of.ensures _ _ c.in-Typedef.is _ c.set_mark.ensures _ _ _ _ (c.in_ok-a-in-Typedef.ensures n) _ (laws.same_lent _ _ _ c.emit_type.auto.list) (c.end_typedef.ensures n)

pub emit_new-returns-in_err-a-in-Typedef : goal.emit_new-returns-in_err-a-in-Typedef
emit_new-returns-in_err-a-in-Typedef t c = λ n. new.new_typedef _ _ _ _ n _ _ _ _ _ _ _ _ c.requires _ c.node_of.ensures _ _ c.in-Typedef.is _ c.set_mark.ensures _ _ _ _ (c.in_err-a-in-Typedef.ensures n) _ (laws.same_lent _ _ _ c.emit_type.auto.list) (laws.ended n _ _ _ _ _ _ c.from_residual.ensures.1)

pub emit_new-returns-in_ok-a-in-Proto : goal.emit_new-returns-in_ok-a-in-Proto
emit_new-returns-in_ok-a-in-Proto t c = λ n. new.new_proto _ _ _ _ n _ _ _ _ _ _ _ _ c.requires _ c.node_of.ensures _ _ _ c.in-Proto.is _ _ _ _ _ (laws.same_lent _ _ _ c.emit_type-in-Proto.auto.list) (c.in_ok-a-in-Proto.ensures n) (rw order.params_are at c.emit_entries.ensures n)

pub emit_new-returns-in_err-a-in-Proto : goal.emit_new-returns-in_err-a-in-Proto
emit_new-returns-in_err-a-in-Proto t c = λ n. new.new_proto _ _ _ _ n _ _ _ _ _ _ _ _ c.requires _ c.node_of.ensures _ _ _ c.in-Proto.is _ _ _ _ _ (laws.same_lent _ _ _ c.emit_type-in-Proto.auto.list) (c.in_err-a-in-Proto.ensures n) (laws.ended n _ _ _ _ _ _ c.from_residual-in_err-a-in-Proto.ensures.1)

pub emit_new-returns-in-Composite : goal.emit_new-returns-in-Composite
emit_new-returns-in-Composite t c = λ n. new.new_composite _ _ _ _ n _ _ _ _ _ _ _ _ c.requires _ c.node_of.ensures _ _ c.in-Composite.is (c.emit_composite.ensures n)

pub emit_type-returns-then-left-eq0 : goal.emit_type-returns-then-left-eq0
emit_type-returns-then-left-eq0 t c = λ n. walk.too_deep _ _ _ _ n _ _ _ _ _ _ _ c.if-left-eq0.true

pub emit_type-returns-in-Done : goal.emit_type-returns-in-Done
emit_type-returns-in-Done t c = λ n. walk.emit_done _ _ _ _ n _ _ _ _ _ _ _ c.if-left-eq0.false (sym c.get_mark.ensures ∙ ap mark_is c.in-Done.is)

pub emit_type-returns-in-Open : goal.emit_type-returns-in-Open
emit_type-returns-in-Open t c = λ n. walk.emit_busy _ _ _ _ n _ _ _ _ _ _ _ c.if-left-eq0.false (sym c.get_mark.ensures ∙ ap mark_is c.in-Open.is) _ (c.emit_again.ensures n)

pub emit_type-returns-then-not-named : goal.emit_type-returns-then-not-named
emit_type-returns-then-not-named t c = λ n. walk.emit_nameless _ _ _ _ n _ _ _ _ _ _ _ c.if-left-eq0.false (sym c.get_mark.ensures ∙ ap mark_is c.in-New.is) _ c.type_by_id-t.ensures _ c.is_named-named.ensures (rw (eq-eqb c.args.cont 0 c.if-cont-eq0.true) (ap not c.if-not-named.true))

pub emit_type-returns : goal.emit_type-returns
emit_type-returns t c = λ n. walk.emit_fresh _ _ _ _ n _ _ _ _ _ _ _ c.if-left-eq0.false (sym c.get_mark.ensures ∙ ap mark_is c.in-New.is) _ c.type_by_id-t.ensures _ c.is_named-named.ensures (elim c.else-cont-eq0.branch [
  | emit_type-else-cont-eq0-via-then-cont-eq0+else-not-named w ↦ and_right _ _ (ap not w.if-not-named.false)
  | emit_type-else-cont-eq0-via-else-cont-eq0 w ↦ and_left _ _ (ne_eqb c.args.cont 0 w.if-cont-eq0.false)
]) _ (c.emit_new.ensures n)

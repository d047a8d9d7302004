use Rattle.c_dumper_dependency_order.specs.order_state.Work.{mark_is}
use Rattle.c_dumper_dependency_order.proofs.order_type.Laws as laws
use mathlib.Core.Path.{refl, ap, ◌∙◌, sym}
use native.Mathlib.Omega.{arith}
use Rattle.c_dumper_dependency_order.proofs.order_type.Orderer.+order_type.Goals as goal

pub order_composite-returns-then-is_passed : goal.order_composite-returns-then-is_passed
order_composite-returns-then-is_passed t c = laws.composite_named _ _ _ _ _ _ _ _ _ _ c.is_named-named.ensures _ _ refl _ _ _ (laws.composite_passed _ _ _ _ _ c.args.o _ _ _ _ _ _ _ (sym c.is_passed.ensures ∙ c.if-is_passed.true) c.strong.ensures)

pub order_composite-returns : goal.order_composite-returns
order_composite-returns t c = laws.composite_named _ _ _ _ _ _ _ _ _ _ c.is_named-named.ensures _ _ c.entries_of.ensures _ _ _ (laws.composite_entered _ _ _ _ _ c.args.o _ _ _ _ _ _ _ _ _ (sym c.is_passed.ensures ∙ c.if-is_passed.false) c.set_mark.ensures refl (laws.follows _ _ _ _ _ (rw (c.to_members.ensures, laws.members_are) at c.in_ok-r.ensures) _ c.finish.ensures))

pub order_composite-returns-in_err-r : goal.order_composite-returns-in_err-r
order_composite-returns-in_err-r t c = laws.handed _ _ _ _ _ c.from_residual.ensures.1 (laws.composite_named _ _ _ _ _ _ _ _ _ _ c.is_named-named.ensures _ _ c.entries_of.ensures _ _ _ (laws.composite_entered _ _ _ _ _ c.args.o _ _ _ _ _ _ _ _ _ (sym c.is_passed.ensures ∙ c.if-is_passed.false) c.set_mark.ensures refl (laws.ends _ _ _ _ _ (rw (c.to_members.ensures, laws.members_are) at c.in_err-r.ensures) _ _)))

pub order_next-returns-then-is_known : goal.order_next-returns-then-is_known
order_next-returns-then-is_known t c = laws.order_known _ _ c.args.o _ _ _ _ _ _ _ c.is_known.ensures c.if-is_known.true _ c.in_ok-count_call.ensures _ c.strong.ensures

pub order_next-returns-in_err-count_call : goal.order_next-returns-in_err-count_call
order_next-returns-in_err-count_call t c = laws.handed _ _ _ _ _ c.from_residual.ensures.1 (laws.known_refused _ _ c.args.o _ _ _ _ _ _ _ c.is_known.ensures c.if-is_known.true _ c.in_err-count_call.ensures)

pub order_new-returns-in-Ignored : goal.order_new-returns-in-Ignored
order_new-returns-in-Ignored t c = laws.new_ignored _ _ _ _ _ c.args.o _ _ _ _ _ c.type_by_id-t.ensures _ c.node_of.ensures _ c.in-Ignored.is _ refl c.strong.ensures

pub order_new-returns-in-Plain : goal.order_new-returns-in-Plain
order_new-returns-in-Plain t c = laws.new_plain _ _ _ _ _ c.args.o _ _ _ _ _ c.type_by_id-t.ensures _ c.node_of.ensures _ c.in-Plain.is (c.mark_ordered.ensures _ _)

pub order_new-returns-in-Enum : goal.order_new-returns-in-Enum
order_new-returns-in-Enum t c = laws.new_listed _ _ _ _ _ c.args.o _ _ _ _ _ c.type_by_id-t.ensures _ c.node_of.ensures _ c.in-Enum.is _ c.is_named-named.ensures c.finish.ensures

pub order_new-returns-in-Through : goal.order_new-returns-in-Through
order_new-returns-in-Through t c = laws.new_through _ _ _ _ _ c.args.o _ _ _ _ _ c.type_by_id-t.ensures _ c.node_of.ensures _ _ c.in-Through.is c.order_next-in-Through.ensures

pub order_new-returns-in-Array : goal.order_new-returns-in-Array
order_new-returns-in-Array t c = laws.new_array _ _ _ _ _ c.args.o _ _ _ _ _ c.type_by_id-t.ensures _ c.node_of.ensures _ _ c.in-Array.is _ c.is_weak_past-has_ptr.ensures c.order_next.ensures

pub order_new-returns-in_ok-r-in-Ptr : goal.order_new-returns-in_ok-r-in-Ptr
order_new-returns-in_ok-r-in-Ptr t c = laws.new_ptr _ _ _ _ _ c.args.o _ _ _ _ _ c.type_by_id-t.ensures _ c.node_of.ensures _ _ c.in-Ptr.is (laws.follows _ _ _ _ _ (rw c.weak.ensures at c.in_ok-r-in-Ptr.ensures) _ (c.mark_ordered-in-Ptr.ensures _ _))

pub order_new-returns-in_err-r-in-Ptr : goal.order_new-returns-in_err-r-in-Ptr
order_new-returns-in_err-r-in-Ptr t c = laws.handed _ _ _ _ _ c.from_residual.ensures.1 (laws.new_ptr _ _ _ _ _ c.args.o _ _ _ _ _ c.type_by_id-t.ensures _ c.node_of.ensures _ _ c.in-Ptr.is (laws.ends _ _ _ _ _ (rw c.weak.ensures at c.in_err-r-in-Ptr.ensures) _ _))

pub order_new-returns-in_ok-r-in-Typedef : goal.order_new-returns-in_ok-r-in-Typedef
order_new-returns-in_ok-r-in-Typedef t c = laws.new_typedef _ _ _ _ _ c.args.o _ _ _ _ _ c.type_by_id-t.ensures _ c.node_of.ensures _ _ c.in-Typedef.is _ refl (laws.follows _ _ _ _ _ (rw c.inside.ensures at c.in_ok-r-in-Typedef.ensures) _ c.finish_typedef.ensures)

pub order_new-returns-in_err-r-in-Typedef : goal.order_new-returns-in_err-r-in-Typedef
order_new-returns-in_err-r-in-Typedef t c = laws.handed _ _ _ _ _ c.from_residual-in_err-r-in-Typedef.ensures.1 (laws.new_typedef _ _ _ _ _ c.args.o _ _ _ _ _ c.type_by_id-t.ensures _ c.node_of.ensures _ _ c.in-Typedef.is _ refl (laws.ends _ _ _ _ _ (rw c.inside.ensures at c.in_err-r-in-Typedef.ensures) _ _))

pub order_new-returns-in_ok-r-in-Proto : goal.order_new-returns-in_ok-r-in-Proto
order_new-returns-in_ok-r-in-Proto t c = laws.proto_params _ _ _ _ _ c.args.o _ _ _ _ _ c.type_by_id-t.ensures _ c.node_of.ensures _ _ _ c.in-Proto.is _ _ _ c.in_ok-r-in-Proto.ensures (rw laws.params_are at c.order_entries.ensures)

pub order_new-returns-in_err-r-in-Proto : goal.order_new-returns-in_err-r-in-Proto
order_new-returns-in_err-r-in-Proto t c = laws.handed _ _ _ _ _ c.from_residual-in_err-r-in-Proto.ensures.1 (laws.new_proto _ _ _ _ _ c.args.o _ _ _ _ _ c.type_by_id-t.ensures _ c.node_of.ensures _ _ _ c.in-Proto.is (laws.ends _ _ _ _ _ c.in_err-r-in-Proto.ensures _ _))

pub order_new-returns-in-Composite : goal.order_new-returns-in-Composite
order_new-returns-in-Composite t c = laws.new_composite _ _ _ _ _ c.args.o _ _ _ _ _ c.type_by_id-t.ensures _ c.node_of.ensures _ _ c.in-Composite.is c.order_composite.ensures

pub order_type-returns-then-step-eq0 : goal.order_type-returns-then-step-eq0
order_type-returns-then-step-eq0 t c = laws.too_deep _ _ c.args.o _ _ _ _ _ _ _ c.if-step-eq0.true c.refused.ensures

pub order_type-returns-in_err-p : goal.order_type-returns-in_err-p
order_type-returns-in_err-p t c = laws.handed _ _ _ _ _ c.from_residual.ensures.1 (laws.none_left _ _ c.args.o _ _ _ _ _ _ c.if-step-eq0.false _ c.in_err-p.ensures)

pub order_entries-loop-k-preserved : goal.order_entries-loop-k-preserved
order_entries-loop-k-preserved t c = laws.rest_turn _ _ _ _ _ _ _ _ _ _ _ _ _ _ _ c.loop-k.invariant (omega arith) _ c.entry_type-t.ensures _ _ _ c.in_ok-p.ensures _ c.strong-r.ensures

pub order_entries-returns-in_err-p : goal.order_entries-returns-in_err-p
order_entries-returns-in_err-p t c = laws.handed _ _ _ _ _ c.from_residual.ensures.1 (laws.entries_halt _ _ _ _ _ _ _ _ _ _ _ _ _ _ c.loop-k.invariant (omega arith) _ c.entry_type-t.ensures _ _ _ _ _ c.in_err-p.ensures)

pub order_entries-returns : goal.order_entries-returns
order_entries-returns t c = laws.entries_end _ _ _ _ _ _ _ _ _ _ _ _ _ _ c.loop-k.invariant _ c.count-k-end.ensures c.loop-k-test.false

pub order_type-returns-in-Done : goal.order_type-returns-in-Done
order_type-returns-in-Done t c = laws.order_done _ _ c.args.o _ _ _ _ _ _ c.if-step-eq0.false _ c.in_ok-p.ensures _ refl _ (sym c.get_mark.ensures ∙ ap mark_is c.in-Done.is) c.strong.ensures

pub order_type-returns-in-Open : goal.order_type-returns-in-Open
order_type-returns-in-Open t c = laws.order_busy _ _ c.args.o _ _ _ _ _ _ c.if-step-eq0.false _ c.in_ok-p.ensures _ refl _ (sym c.get_mark.ensures ∙ ap mark_is c.in-Open.is) c.meet.ensures

pub order_type-returns-in-New : goal.order_type-returns-in-New
order_type-returns-in-New t c = laws.order_fresh _ _ c.args.o _ _ _ _ _ _ c.if-step-eq0.false _ c.in_ok-p.ensures _ refl _ (sym c.get_mark.ensures ∙ ap mark_is c.in-New.is) c.order_new.ensures

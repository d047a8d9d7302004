-- A request for an id that has nothing to write opens one call of ordering. Assumes nothing.
use Prim.Native.Nat.{ℕ, suc}
use mathlib.Core.Path.{◌≡◌, refl, ap, sym}
use mathlib.Core.List.{List}
use mathlib.Core.Bool.{Bool, true, false, true≢false}
use Rattle.spec_c_dumper.specs.rules.Order.{Node, ignored, plain, listed, through, ptr, tdef, proto, comp, Mark, new, busy, done, Res, order}
use Rattle.spec_type_table.specs.declared.types.TypeTable.{TypeTable}
use Rattle.spec_type_table.specs.Cells.{get_field}
use Rattle.spec_c_dumper.specs.ceiling.Ceiling.{calls_fresh, calls_visit, calls}
use Rattle.c_dumper_dependency_order.specs.order_state.Work.{Marks, mark_of, work_store, table_in}
use Rattle.spec_session.specs.emission.Slices.{is_ignored, is_idle}
use Rattle.spec_session.specs.metered.Metered.{calls_in}

module _ (b : TypeTable) (s : List ℕ) (w : List ℕ) (id : ℕ) where
  idle_fresh : (rec : Marks → ℕ → Bool → Res Marks) (count : Marks → ℕ → Bool → ℕ) (m : Marks) (nd : Node) → is_ignored nd ≡ true → calls_fresh work_store (table_in b s w) rec count m id false nd ≡ 0
  unfolding is_ignored calls_fresh
  idle_fresh rec count m ignored e = refl
  idle_fresh rec count m plain e = refl
  idle_fresh rec count m (listed f) e = refl
  idle_fresh rec count m (through a t) e = absurd (true≢false (sym e))
  idle_fresh rec count m (ptr t) e = absurd (true≢false (sym e))
  idle_fresh rec count m (tdef t) e = absurd (true≢false (sym e))
  idle_fresh rec count m (proto ts) e = absurd (true≢false (sym e))
  idle_fresh rec count m (comp ms) e = absurd (true≢false (sym e))

  idle_opens : (rec : Marks → ℕ → Bool → Res Marks) (count : Marks → ℕ → Bool → ℕ) (m : Marks) (d : Mark) → is_idle d ((table_in b s w).node id) ≡ true → calls_visit work_store (table_in b s w) rec count m id false d ≡ 0
  unfolding is_idle calls_visit
  idle_opens rec count m new e = idle_fresh rec count m ((table_in b s w).node id) e
  idle_opens rec count m busy e = refl
  idle_opens rec count m done e = refl

  pub idle_calls : is_idle (mark_of (get_field w id 1)) ((table_in b s w).node id) ≡ true → calls_in b s w id ≡ 1
  unfolding calls_in calls work_store
  idle_calls e = ap suc (idle_opens (λ s' y f. order work_store 511 (table_in b s w) s' y f) (λ s' y f. calls work_store 511 (table_in b s w) s' y f) (record { work = w; len = 0 }) (mark_of (get_field w id 1)) e)

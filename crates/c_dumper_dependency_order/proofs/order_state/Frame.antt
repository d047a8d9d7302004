-- The table in the work does not read the marks and the order list: a store to word 1 or 11 of a cell leaves it. Assumes nothing.
use Prim.Native.Nat.{ℕ, zero, suc}
use mathlib.Core.Path.{◌≡◌, refl, ◌∙◌}
use mathlib.Core.List.{List, [], ◌∷◌}
use mathlib.Core.Bool.{Bool, true, false, not, ◌&&◌, ◌||◌}
use native.Mathlib.Omega.{arith}
use Rattle.spec_c_dumper.specs.rules.Order.{Table, Node, ignored, plain, listed, through, ptr, tdef, proto, comp, Mark, new, busy, done, is_comp, is_done, push_if, finish}
use Rattle.spec_type_table.specs.declared.types.TypeTable.{TypeTable}
use Rattle.spec_type_table.specs.Cells.{put_field}
use Rattle.spec_type_table.specs.Table.{btf_of}
use Rattle.spec_type_table.proofs.Frame.{table_field}
use Rattle.spec_c_dumper.specs.ceiling.Ceiling.{Told, told, halted, then_bind, each_within, meet_within, enter_within, alias_within, fresh_within, visit_within, Limit, allows, one_call}
use Rattle.c_dumper_dependency_order.specs.order_state.Work.{code, work_store}
use Rattle.spec_c_dumper.specs.origins.Causes.{is_around}
use Rattle.c_dumper_dependency_order.specs.declared.leaders.Way.{Way}
use Rattle.c_dumper_dependency_order.specs.leaders.Leaders.{way_for, MarksAndLeaders, kept_store, order_kept}

module _ (b : TypeTable) (s : List ℕ) (w : List ℕ) (x v : ℕ) where
  pub table_mark : btf_of b s (put_field w x 1 v) ≡ btf_of b s w
  table_mark = table_field w x 1 v (omega arith) b s (λ e. omega arith) (λ e. omega arith) (λ e. omega arith)

  pub table_list : btf_of b s (put_field w x 11 v) ≡ btf_of b s w
  table_list = table_field w x 11 v (omega arith) b s (λ e. omega arith) (λ e. omega arith) (λ e. omega arith)

-- What ordering leaves alone: whatever reads neither words 1 nor words 11.
module _ {X : Type 0} (P : List ℕ → X) where
  pub data Stays (w : List ℕ) : Told MarksAndLeaders → Type 0 where
    on : {m : MarksAndLeaders} {b : Bool} {j : ℕ} → P m.marks.work ≡ P w → Stays w (told m b j)
    off : {e j : ℕ} → Stays w (halted e j)

  pub stays_bind : (w : List ℕ) (r : Told MarksAndLeaders) (k : MarksAndLeaders → Bool → ℕ → Told MarksAndLeaders) → Stays w r → ((m : MarksAndLeaders) (b : Bool) (j : ℕ) → Stays m.marks.work (k m b j)) → Stays w (then_bind r k)
  unfolding then_bind
  stays_bind w (told m b j) k (on e) h = go (k m b j) (h m b j)
    where
      go : (r : Told MarksAndLeaders) → Stays m.marks.work r → Stays w r
      go (told m' b' j') (on e') = on (e' ∙ e)
      go (halted c j') off = off
  stays_bind w (halted c j) k off h = off

  module _ (marks : (w : List ℕ) (x v : ℕ) → P (put_field w x 1 v) ≡ P w) (lists : (w : List ℕ) (x v : ℕ) → P (put_field w x 11 v) ≡ P w) where
    module _ (v : Way) where
      stays_mark : (k : Mark) (x : ℕ) (m : MarksAndLeaders) → P ((kept_store v).mark k x m).marks.work ≡ P m.marks.work
      unfolding kept_store work_store
      stays_mark k x m = marks m.marks.work x (code k)

      stays_push : (x : ℕ) (m : MarksAndLeaders) → P ((kept_store v).push x m).marks.work ≡ P m.marks.work
      unfolding kept_store work_store
      stays_push x m = lists m.marks.work m.marks.len x

      pub stays_finish : (p : Bool) (x : ℕ) (m : MarksAndLeaders) → P (finish (kept_store v) p x m).marks.work ≡ P m.marks.work
      unfolding push_if
      stays_finish true x m = stays_mark done x ((kept_store v).push x m) ∙ stays_push x m
      stays_finish false x m = stays_mark done x m

      stays_each : (f : MarksAndLeaders → ℕ → ℕ → Told MarksAndLeaders) → ((m : MarksAndLeaders) (y j : ℕ) → Stays m.marks.work (f m y j)) → (ys : List ℕ) (m : MarksAndLeaders) (b : Bool) (j : ℕ) → Stays m.marks.work (each_within f ys m b j)
      unfolding each_within
      stays_each f h [] m b j = on refl
      stays_each f h (y ∷ ys) m b j = stays_bind m.marks.work (f m y j) (λ s' b' j'. each_within f ys s' (b || b') j') (h m y j) (λ m' b' j'. stays_each f h ys m' (b || b') j')

      stays_enter : (t : Bool) (f : MarksAndLeaders → ℕ → ℕ → Told MarksAndLeaders) → ((m : MarksAndLeaders) (y j : ℕ) → Stays m.marks.work (f m y j)) → (m : MarksAndLeaders) (x : ℕ) (nm : Bool) (ms : List ℕ) (j : ℕ) → Stays m.marks.work (enter_within (kept_store v) t f m x nm ms j)
      unfolding enter_within
      stays_enter true f h m x nm ms j = on refl
      stays_enter false f h m x nm ms j = go (each_within f ms ((kept_store v).mark busy x m) false j) (stays_each f h ms ((kept_store v).mark busy x m) false j)
        where
          inner : (r : Told MarksAndLeaders) → Stays ((kept_store v).mark busy x m).marks.work r → Stays m.marks.work r
          inner (told m' b' j') (on e) = on (e ∙ stays_mark busy x m)
          inner (halted c j') off = off

          go : (r : Told MarksAndLeaders) → Stays ((kept_store v).mark busy x m).marks.work r → Stays m.marks.work (then_bind r (λ s' b j'. told (finish (kept_store v) nm x s') true j'))
          go r h = stays_bind m.marks.work r (λ s' b j'. told (finish (kept_store v) nm x s') true j') (inner r h) (λ m' b' j'. on (stays_finish nm x m'))

      stays_alias : (t was : Bool) (m : MarksAndLeaders) (x j : ℕ) → Stays m.marks.work (alias_within (kept_store v) t was m x j)
      unfolding alias_within
      stays_alias true was m x j = on (stays_finish (not was) x m)
      stays_alias false was m x j = on refl

      module _ (T : Table) (rec : MarksAndLeaders → ℕ → Bool → ℕ → Told MarksAndLeaders) (h : (m : MarksAndLeaders) (y : ℕ) (w : Bool) (j : ℕ) → Stays m.marks.work (rec m y w j)) (m : MarksAndLeaders) (x : ℕ) (weak : Bool) (j : ℕ) where
        stays_fresh : (nd : Node) → Stays m.marks.work (fresh_within (kept_store v) T rec m x weak nd j)
        unfolding fresh_within
        stays_fresh ignored = on refl
        stays_fresh plain = on (stays_finish false x m)
        stays_fresh (listed f) = on (stays_finish (T.named x) x m)
        stays_fresh (through a t) = h m t (not (a && T.strong_arrays) && weak) j
        stays_fresh (ptr t) = stays_bind m.marks.work (rec m t true j) (λ s' b j'. told (finish (kept_store v) false x s') b j') (h m t true j) (λ m' b' j'. on (stays_finish false x m'))
        stays_fresh (tdef t) =
            stays_bind m.marks.work (rec m t weak j) (λ s' b j'. alias_within (kept_store v) (not weak || b) (is_done ((kept_store v).get s' x)) s' x j') (h m t weak j)
            (λ m' b' j'. stays_alias (not weak || b') (is_done ((kept_store v).get m' x)) m' x j')
        stays_fresh (proto ts) = stays_each (λ s' y j'. rec s' y weak j') (λ m' y j'. h m' y weak j') ts m false j
        stays_fresh (comp ms) = stays_enter (weak && T.named x) (λ s' y j'. rec s' y false j') (λ m' y j'. h m' y false j') m x (T.named x) ms j

        stays_meet : (t : Bool) → Stays m.marks.work (meet_within t m j)
        unfolding meet_within
        stays_meet true = on refl
        stays_meet false = off

        stays_visit : (k : Mark) → Stays m.marks.work (visit_within (kept_store v) T rec m x weak k j)
        unfolding visit_within
        stays_visit new = stays_fresh (T.node x)
        stays_visit busy = stays_meet (is_comp (T.node x) && (weak && T.named x))
        stays_visit done = on refl

    pub stays_order : (c : Limit) (v : Way) (n : ℕ) (T : Table) (m : MarksAndLeaders) (x : ℕ) (weak : Bool) (j : ℕ) → Stays m.marks.work (order_kept c v n T m x weak j)
    unfolding order_kept
    stays_order c v zero T m x weak j = off
    stays_order c v (suc n) T m x weak j =
        go (allows c j) (stays_visit v T (λ s' y w j'. order_kept c (way_for (is_around (T.node x)) v x) n T s' y w j') (λ m' y w j'. stays_order c (way_for (is_around (T.node x)) v x) n T m' y w j') m x weak (one_call c j) (work_store.get m.marks x))
      where
        go : (p : Bool) {t : Told MarksAndLeaders} → Stays m.marks.work t → Stays m.marks.work (elim p as (λ q. Told MarksAndLeaders) [ true ↦ t | false ↦ halted 22 j ])
        go true h = h
        go false h = off

-- the table, in particular
pub table_kept : (b : TypeTable) (s : List ℕ) (c : Limit) (v : Way) (n : ℕ) (T : Table) (m : MarksAndLeaders) (x : ℕ) (weak : Bool) (j : ℕ) → Stays (btf_of b s) m.marks.work (order_kept c v n T m x weak j)
table_kept b s = stays_order (btf_of b s) (table_mark b s) (table_list b s)

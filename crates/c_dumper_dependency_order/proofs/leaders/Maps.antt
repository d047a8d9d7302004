-- Ordering without the leaders is ordering over the work. Assumes nothing.
use Prim.Native.Nat.{ℕ, zero, suc}
use mathlib.Core.Path.{◌≡◌, refl}
use mathlib.Core.Bool.{Bool, true, false}
use Rattle.spec_c_dumper.specs.rules.Order.{Table}
use Rattle.spec_c_dumper.specs.ceiling.Ceiling.{Limit, allows, one_call, Told, halted, order_within}
use Rattle.spec_c_dumper.proofs.rules.Maps.{tmap, StoreMap, map_visit_within}
use Rattle.c_dumper_dependency_order.specs.order_state.Work.{Marks, work_store}
use Rattle.spec_c_dumper.specs.origins.Causes.{is_around}
use Rattle.c_dumper_dependency_order.specs.declared.leaders.Way.{Way}
use Rattle.c_dumper_dependency_order.specs.leaders.Leaders.{way_for, MarksAndLeaders, kept_store, order_kept}

module _ (v : Way) where
  forget_map : StoreMap (kept_store v) work_store (λ s. s.marks)
  unfolding kept_store
  forget_map = record { gets = λ s x. refl; marks = λ d x s. refl; pushes = λ x s. refl; lists = λ s. refl }

pub forget_kept : (c : Limit) (v : Way) (n : ℕ) (T : Table) (s : MarksAndLeaders) (x : ℕ) (weak : Bool) (k : ℕ) → order_within work_store c n T s.marks x weak k ≡ tmap (λ (m : MarksAndLeaders). m.marks) (order_kept c v n T s x weak k)
unfolding order_within order_kept
forget_kept c v zero T s x weak k = refl
forget_kept c v (suc n) T s x weak k =
    go (allows c k) _ _
    (map_visit_within (kept_store v) work_store (λ m. m.marks) (forget_map v) T (λ s' y f j. order_within work_store c n T s' y f j) (λ s' y f j. order_kept c (way_for (is_around (T.node x)) v x) n T s' y f j)
    (λ s' y f j. forget_kept c (way_for (is_around (T.node x)) v x) n T s' y f j) s x weak (work_store.get s.marks x) (one_call c k))
  where
    go : (p : Bool) (t : Told Marks) (u : Told MarksAndLeaders) → t ≡ tmap (λ (m : MarksAndLeaders). m.marks) u
        → (elim p as (λ q. Told Marks) [ true ↦ t | false ↦ halted 22 k ]) ≡ tmap (λ (m : MarksAndLeaders). m.marks) (elim p as (λ q. Told MarksAndLeaders) [ true ↦ u | false ↦ halted 22 k ])
    go true t u e = e
    go false t u e = refl

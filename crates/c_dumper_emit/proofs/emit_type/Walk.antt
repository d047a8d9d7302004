-- The walk of emission with entries, an id that is not emitted yet: what each return comes to. Assumes nothing.
use Prim.Native.Nat.{ℕ}
use mathlib.Core.Path.{◌≡◌, refl, ap, ◌∙◌, sym, subst}
use mathlib.Core.List.{List}
use mathlib.Core.Bool.{Bool, true, false, not, ◌&&◌, ◌||◌, true≢false}
use mathlib.Core.Logic.{◌⊎◌, inl, inr}
use native.Mathlib.Omega.{arith}
use lib.Dec.{eqb}
use Rattle.std.specs.Prelude.{Ok}
use Rattle.spec_c_dumper.specs.rules.Machine.{Out, wrote, is_zero, pick, obind, eeach, once, close, within, begin}
use Rattle.spec_c_dumper.specs.rules.Types.{BtfType, Btf as Rules, node_of, is_named, table_of}
use Rattle.spec_type_table.specs.declared.types.TypeTable.{TypeTable}
use Rattle.spec_type_table.specs.declared.types.BtfType.{BtfType as Record}
use Rattle.spec_type_table.specs.declared.types.Entries.{Entries}
use Rattle.spec_type_table.specs.declared.node.Node.{Node as Code}
use Rattle.spec_type_table.specs.declared.node.Node.TheVariants as code
use Rattle.spec_type_table.specs.Cells.{get_field, put_field}
use Rattle.spec_type_table.specs.Records.{entries_of, record_by_id}
use Rattle.spec_type_table.specs.Table.{type_of, btf_of}
use Rattle.spec_type_table.specs.Nodes.{node_is, member_ids, param_ids}
use Rattle.spec_type_table.proofs.Frame.{field_other}
use Rattle.c_dumper_dependency_order.proofs.order_state.Laws.{type_at, node_at, named_at, node_is_lem, comp_is}
use Rattle.spec_session.specs.emission.Slices.{Slices, work_machine}
use Rattle.spec_session.proofs.emission.Frame.{table_emark}
use Rattle.spec_c_dumper.specs.origins.Causes.{Entry, Traced, cause_at}
use Rattle.c_dumper_emit.specs.declared.entries.Pen.{Pen}
use Rattle.c_dumper_emit.specs.entries.Traced.{Lent, traced_out, line_n, mach_n, emit_n, new_n, leaf_n, composite_n, has_n, mention_n, typedef_n, mentioned_n, ended_n}
use Rattle.c_dumper_emit.proofs.entries.Frame.{Stays, stays_then, table_each}
use Rattle.c_dumper_emit.proofs.entries.Laws.{Penned, with_n, obind_then, obind_wrote, obind_same, then, work_slices, same_table, entry_stays, called_stays}
use Rattle.c_dumper_emit.proofs.entries.Walk.{once_fwd, once_alias, zero_is}

-- ---- emit_new
module _ (b : TypeTable) (s : List ℕ) (lent : Lent) (why : ℕ → Entry) (n : ℕ) (p : Pen) (tx w li : List ℕ) (id cont left : ℕ) (t : Record) (et : t ≡ record_by_id b s w id) (nd : Code) (en : node_is b s nd ≡ node_of (type_of b s t)) (x : Out (Traced Slices) (Unit {0})) where
  abbrev Bn : Rules
  Bn = btf_of b s w

  abbrev rec : Traced Slices → ℕ → ℕ → Out (Traced Slices) (Unit {0})
  rec m' y c = emit_n b Bn lent why left c m' y

  abbrev Goal : Type 0
  Goal = x ≡ obind (traced_out n (Ok p) tx w li) (λ m. new_n b Bn lent why left cont m id)

  by_node : (c : Code) → nd ≡ c → (k : Traced Slices → Out (Traced Slices) (Unit {0})) → x ≡ obind (traced_out n (Ok p) tx w li) k
      → ((m : Traced Slices) → k m ≡ begin (mach_n b Bn lent why cont) (table_of Bn) rec m id cont (is_zero cont) (node_is b s c)) → Goal
  unfolding new_n
  by_node c e k ex h = ex ∙ obind_same (traced_out n (Ok p) tx w li) k (λ m. new_n b Bn lent why left cont m id)
      (λ m. h m ∙ ap (begin (mach_n b Bn lent why cont) (table_of Bn) rec m id cont (is_zero cont)) (ap (node_is b s) (sym e) ∙ sym (node_is_lem b s w id t et nd en)))

  pub new_none : (nd ≡ code.Ignored) ⊎ (nd ≡ code.Plain) → x ≡ traced_out n (Ok p) tx w li → Goal
  unfolding node_is begin
  new_none (inl e) ex = by_node code.Ignored e (λ m. wrote m) (ex ∙ sym (obind_wrote (traced_out n (Ok p) tx w li))) (λ m. refl)
  new_none (inr e) ex = by_node code.Plain e (λ m. wrote m) (ex ∙ sym (obind_wrote (traced_out n (Ok p) tx w li))) (λ m. refl)

  pub new_enum : nd ≡ code.Enum → x ≡ obind (traced_out n (Ok p) tx w li) (λ m. leaf_n b Bn lent why false cont m id) → Goal
  unfolding node_is begin leaf_n
  new_enum e ex = by_node code.Enum e (λ m. leaf_n b Bn lent why false cont m id) ex (λ m. refl)

  pub new_fwd : nd ≡ code.Fwd → x ≡ obind (traced_out n (Ok p) tx w li) (λ m. leaf_n b Bn lent why true cont m id) → Goal
  unfolding node_is begin leaf_n
  new_fwd e ex = by_node code.Fwd e (λ m. leaf_n b Bn lent why true cont m id) ex (λ m. refl)

  pub new_on : (y : ℕ) → (nd ≡ code.Array y) ⊎ ((nd ≡ code.Through y) ⊎ (nd ≡ code.Ptr y)) → x ≡ obind (traced_out n (Ok p) tx w li) (λ m. emit_n b Bn lent why left cont m y) → Goal
  unfolding node_is begin emit_n
  new_on y (inl e) ex = by_node (code.Array y) e (λ m. emit_n b Bn lent why left cont m y) ex (λ m. refl)
  new_on y (inr (inl e)) ex = by_node (code.Through y) e (λ m. emit_n b Bn lent why left cont m y) ex (λ m. refl)
  new_on y (inr (inr e)) ex = by_node (code.Ptr y) e (λ m. emit_n b Bn lent why left cont m y) ex (λ m. refl)

  pub new_composite : (es : Entries) → nd ≡ code.Composite es → x ≡ obind (traced_out n (Ok p) tx w li) (λ m. composite_n b Bn lent why left cont (member_ids b s (entries_of t)) m id) → Goal
  unfolding node_is composite_n new_n
  new_composite es e ex = ex ∙ obind_same (traced_out n (Ok p) tx w li) (λ m. composite_n b Bn lent why left cont (member_ids b s (entries_of t)) m id) (λ m. new_n b Bn lent why left cont m id)
      (λ m. ap (begin (mach_n b Bn lent why cont) (table_of Bn) rec m id cont (is_zero cont)) (comp_is b s t nd en es e ∙ sym (node_at b s w id t et)))

  pub new_proto : (y : ℕ) (es : Entries) → nd ≡ code.Proto y es → (a : Penned) (t₁ w₁ l₁ : List ℕ) (lent₁ : Lent) → lent₁ ≡ lent → traced_out n a t₁ w₁ l₁ ≡ obind (traced_out n (Ok p) tx w li) (λ m. emit_n b Bn lent why left cont m y)
      → x ≡ obind (traced_out n a t₁ w₁ l₁) (λ m. eeach (emit_n b (btf_of b s w₁) lent₁ why left cont) (param_ids b s es) m) → Goal
  unfolding node_is begin eeach emit_n
  new_proto y es e a t₁ w₁ l₁ lent₁ er ea ex = by_node (code.Proto y es) e (λ m. obind (emit_n b Bn lent why left cont m y) (λ m'. eeach (emit_n b Bn lent why left cont) (param_ids b s es) m'))
      (then (traced_out n (Ok p) tx w li) (λ m. emit_n b Bn lent why left cont m y) (λ m'. eeach (emit_n b Bn lent why left cont) (param_ids b s es) m') (traced_out n a t₁ w₁ l₁) x ea
      (ex ∙ ap (λ (r : Lent). obind (traced_out n a t₁ w₁ l₁) (λ m. eeach (emit_n b (btf_of b s w₁) r why left cont) (param_ids b s es) m)) er
      ∙ same_table b s n a t₁ w₁ l₁ w (λ Q m. eeach (emit_n b Q lent why left cont) (param_ids b s es) m) (called_stays b s n p tx w li a t₁ w₁ l₁ Bn lent why y left cont ea))) (λ m. refl)

  pub new_typedef : (y : ℕ) → nd ≡ code.Typedef y → (w₁ : List ℕ) → w₁ ≡ put_field w id 13 1 → (a : Penned) (t₂ w₂ l₂ : List ℕ) → traced_out n a t₂ w₂ l₂ ≡ obind (traced_out n (Ok p) tx w₁ li) (λ m. emit_n b (btf_of b s w₁) lent why left id m y)
      → (lent₂ : Lent) → lent₂ ≡ lent → x ≡ obind (traced_out n a t₂ w₂ l₂) (λ m. typedef_n b (btf_of b s w₂) lent₂ (type_of b s t) (cause_at 3 (why id) id cont) m id) → Goal
  unfolding node_is begin emit_n has_n work_machine typedef_n
  new_typedef y e w₁ e₁ a t₂ w₂ l₂ e₂ lent₂ er ex =
      by_node (code.Typedef y) e (λ m. obind (rec (with_n m (put_field m.mach.work id 13 1)) y id) rest)
      (end₃
      ∙ ap (λ (o : Out (Traced Slices) (Unit {0})). obind o rest) call₂
      ∙ obind_then (traced_out n (Ok p) tx w₁ li) (λ m. emit_n b Bn lent why left id m y) rest
      ∙ work_slices n (Ok p) tx w li (λ u. put_field u id 13 1) w₁ (λ m. obind (emit_n b Bn lent why left id m y) rest) e₁)
      (λ m. obind_same (rec (with_n m (put_field m.mach.work id 13 1)) y id) rest _
      (λ m'. ap (λ (o : Out (Traced Slices) (Unit {0})). obind o (λ m''. wrote (with_n m'' (put_field m''.mach.work id 13 2))))
      (once_alias b Bn lent why cont (type_of b s t) (cause_at 3 (why id) id cont) m' id refl ((mach_n b Bn lent why cont).has_fwd m' id) (sym (type_at b s w id t et)))))
    where
      rest : Traced Slices → Out (Traced Slices) (Unit {0})
      rest m' = typedef_n b Bn lent (type_of b s t) (cause_at 3 (why id) id cont) m' id

      same₁ : btf_of b s w₁ ≡ Bn
      same₁ = ap (btf_of b s) e₁ ∙ table_emark b s w id 1

      call₂ : traced_out n a t₂ w₂ l₂ ≡ obind (traced_out n (Ok p) tx w₁ li) (λ m. emit_n b Bn lent why left id m y)
      call₂ = e₂ ∙ ap (λ (Q : Rules). obind (traced_out n (Ok p) tx w₁ li) (λ m. emit_n b Q lent why left id m y)) same₁

      end₃ : x ≡ obind (traced_out n a t₂ w₂ l₂) rest
      end₃ = ex ∙ ap (λ (r : Lent). obind (traced_out n a t₂ w₂ l₂) (λ m. typedef_n b (btf_of b s w₂) r (type_of b s t) (cause_at 3 (why id) id cont) m id)) er
          ∙ same_table b s n a t₂ w₂ l₂ w₁ (λ Q m. typedef_n b Q lent (type_of b s t) (cause_at 3 (why id) id cont) m id) (called_stays b s n p tx w₁ li a t₂ w₂ l₂ (btf_of b s w₁) lent why y left id e₂)
          ∙ ap (λ (Q : Rules). obind (traced_out n a t₂ w₂ l₂) (λ m. typedef_n b Q lent (type_of b s t) (cause_at 3 (why id) id cont) m id)) same₁

-- ---- emit_composite
pub composite_entries : (b : TypeTable) (s : List ℕ) (B : Rules) (lent : Lent) (why : ℕ → Entry) (left cont id : ℕ) (o x : Out (Traced Slices) (Unit {0})) (es es' : Entries) → es ≡ es'
    → x ≡ obind o (λ m. composite_n b B lent why left cont (member_ids b s es) m id) → x ≡ obind o (λ m. composite_n b B lent why left cont (member_ids b s es') m id)
composite_entries b s B lent why left cont id o x es es' e ex = ex ∙ ap (λ (y : Entries). obind o (λ m. composite_n b B lent why left cont (member_ids b s y) m id)) e

module _ (b : TypeTable) (s : List ℕ) (lent : Lent) (why : ℕ → Entry) (n : ℕ) (p : Pen) (tx w li : List ℕ) (id cont left : ℕ) (t : Record) (et : t ≡ record_by_id b s w id) (nm : Bool) (en : nm ≡ is_named (type_of b s t)) (ms : List ℕ) where
  abbrev Bc : Rules
  Bc = btf_of b s w

  abbrev recc : Traced Slices → ℕ → ℕ → Out (Traced Slices) (Unit {0})
  recc m' y c = emit_n b Bc lent why left c m' y

  abbrev Composed : Traced Slices → Out (Traced Slices) (Unit {0})
  Composed m = composite_n b Bc lent why left cont ms m id

  -- the clause, by its tests
  begun : (top nm' : Bool) → is_zero cont ≡ top → nm ≡ nm' → (m : Traced Slices)
      → obind (within (mach_n b Bc lent why cont) (table_of Bc) recc m id cont (top || not nm') nm' ms) (close (mach_n b Bc lent why cont) (table_of Bc) top id) ≡ Composed m
  unfolding composite_n begin
  begun top nm' ez e m =
      ap (λ (f : Bool). obind (within (mach_n b Bc lent why cont) (table_of Bc) recc m id cont (f || not nm') nm' ms) (close (mach_n b Bc lent why cont) (table_of Bc) f id)) (sym ez)
      ∙ ap (λ (g : Bool). obind (within (mach_n b Bc lent why cont) (table_of Bc) recc m id cont (is_zero cont || not g) g ms) (close (mach_n b Bc lent why cont) (table_of Bc) (is_zero cont) id)) (sym (named_at b s w id t et ∙ sym en ∙ e))

  both : (v f : Bool) → (v && not f) ≡ true → v ≡ true
  both true f e = refl
  both false f e = e

  within_is : (v f : Bool) → (v && not f) ≡ true → f ≡ false
  within_is true true e = sym e
  within_is true false e = refl
  within_is false f e = absurd (true≢false (sym e))

  pub composite_mention : (nm && not (eqb cont 0)) ≡ true → (x : Out (Traced Slices) (Unit {0})) → x ≡ obind (traced_out n (Ok p) tx w li) (λ m. mentioned_n b Bc lent (type_of b s t) cont m id) → x ≡ obind (traced_out n (Ok p) tx w li) Composed
  unfolding within close mention_n mentioned_n has_n work_machine
  composite_mention z x ex = ex ∙ obind_same (traced_out n (Ok p) tx w li) (λ m. mentioned_n b Bc lent (type_of b s t) cont m id) Composed
      (λ m. ap (λ (o : Out (Traced Slices) (Unit {0})). obind o (λ m'. wrote (with_n m' (put_field m'.mach.work id 13 0))))
      (once_fwd b Bc lent why cont (type_of b s t) (with_n m (put_field m.mach.work id 13 1)) id (not (eqb (get_field (put_field m.mach.work id 13 1) id 3) 0) || eqb id cont) (sym (type_at b s w id t et))
      ∙ ap (λ (v : ℕ). once (mach_n b Bc lent why cont) (table_of Bc) (mach_n b Bc lent why cont).fwd_line id (not (eqb v 0) || eqb id cont) (with_n m (put_field m.mach.work id 13 1))) (field_other m.mach.work id 13 1 id 3 (omega arith) (omega arith) (λ q. omega arith)))
      ∙ begun false true (zero_is cont ∙ within_is nm (eqb cont 0) z) (both nm (eqb cont 0) z) m)

  module _ (g : (nm && not (eqb cont 0)) ≡ false) (w₁ : List ℕ) (e₁ : w₁ ≡ put_field w id 13 1) where
    same₁ : btf_of b s w₁ ≡ Bc
    same₁ = ap (btf_of b s) e₁ ∙ table_emark b s w id 1

    members_call : (c : ℕ) (a : Penned) (t₂ w₂ l₂ : List ℕ) → traced_out n a t₂ w₂ l₂ ≡ obind (traced_out n (Ok p) tx w₁ li) (λ m. eeach (emit_n b (btf_of b s w₁) lent why left c) ms m)
        → traced_out n a t₂ w₂ l₂ ≡ obind (traced_out n (Ok p) tx w li) (λ m. eeach (emit_n b Bc lent why left c) ms (with_n m (put_field m.mach.work id 13 1)))
    members_call c a t₂ w₂ l₂ e = e ∙ ap (λ (Q : Rules). obind (traced_out n (Ok p) tx w₁ li) (λ m. eeach (emit_n b Q lent why left c) ms m)) same₁ ∙ work_slices n (Ok p) tx w li (λ u. put_field u id 13 1) w₁ (λ m. eeach (emit_n b Bc lent why left c) ms m) e₁

    members_stay : (c : ℕ) (a : Penned) (t₂ w₂ l₂ : List ℕ) → traced_out n a t₂ w₂ l₂ ≡ obind (traced_out n (Ok p) tx w₁ li) (λ m. eeach (emit_n b (btf_of b s w₁) lent why left c) ms m) → Stays (btf_of b s) w₁ (traced_out n a t₂ w₂ l₂)
    unfolding emit_n
    members_stay c a t₂ w₂ l₂ e = subst (Stays (btf_of b s) w₁) (sym e)
        (stays_then (btf_of b s) w₁ (traced_out n (Ok p) tx w₁ li) (λ m. eeach (emit_n b (btf_of b s w₁) lent why left c) ms m) (entry_stays b s (btf_of b s) n p tx w₁ li) (λ m. table_each b s (btf_of b s w₁) lent why left c ms m))

    -- the members within c, and what ends the composite
    abbrev then_ends : ℕ → Bool → BtfType → Traced Slices → Out (Traced Slices) (Unit {0})
    then_ends c f y m = obind (eeach (emit_n b Bc lent why left c) ms (with_n m (put_field m.mach.work id 13 1))) (λ m'. ended_n b Bc lent f y (why id) m' id)

    nameless : (v : Bool) → (v && true) ≡ false → v ≡ false
    nameless true e = e
    nameless false e = refl

    ended_is : (f : Bool) → eqb cont 0 ≡ f → (nm && not f) ≡ false → (m : Traced Slices) → then_ends (pick nm id cont) f (type_of b s t) m ≡ Composed m
    unfolding within close emit_n work_machine line_n ended_n
    ended_is true z h m = ap (λ (y : BtfType). then_ends (pick nm id cont) true y m) (sym (type_at b s w id t et)) ∙ begun true nm (zero_is cont ∙ z) refl m
    ended_is false z h m = ap (λ (v : Bool). then_ends (pick v id cont) false (type_of b s t) m) (nameless nm h) ∙ begun false false (zero_is cont ∙ z) (nameless nm h) m

    pub composite_ends : (c₀ : ℕ) → c₀ ≡ pick nm id cont → (a : Penned) (t₂ w₂ l₂ : List ℕ) → traced_out n a t₂ w₂ l₂ ≡ obind (traced_out n (Ok p) tx w₁ li) (λ m. eeach (emit_n b (btf_of b s w₁) lent why left c₀) ms m)
        → (lent₂ : Lent) → lent₂ ≡ lent → (x : Out (Traced Slices) (Unit {0})) → x ≡ obind (traced_out n a t₂ w₂ l₂) (λ m. ended_n b (btf_of b s w₂) lent₂ (eqb cont 0) (type_of b s t) (why id) m id) → x ≡ obind (traced_out n (Ok p) tx w li) Composed
    composite_ends c₀ ec a t₂ w₂ l₂ e₂ lent₂ er x ex =
        ex ∙ ap (λ (r : Lent). obind (traced_out n a t₂ w₂ l₂) (λ m. ended_n b (btf_of b s w₂) r (eqb cont 0) (type_of b s t) (why id) m id)) er
        ∙ same_table b s n a t₂ w₂ l₂ w₁ (λ Q m. ended_n b Q lent (eqb cont 0) (type_of b s t) (why id) m id) (members_stay c₀ a t₂ w₂ l₂ e₂)
        ∙ ap (λ (Q : Rules). obind (traced_out n a t₂ w₂ l₂) (λ m. ended_n b Q lent (eqb cont 0) (type_of b s t) (why id) m id)) same₁
        ∙ ap (λ (o : Out (Traced Slices) (Unit {0})). obind o (λ m. ended_n b Bc lent (eqb cont 0) (type_of b s t) (why id) m id)) (members_call c₀ a t₂ w₂ l₂ e₂)
        ∙ obind_then (traced_out n (Ok p) tx w li) (λ m. eeach (emit_n b Bc lent why left c₀) ms (with_n m (put_field m.mach.work id 13 1))) (λ m. ended_n b Bc lent (eqb cont 0) (type_of b s t) (why id) m id)
        ∙ obind_same (traced_out n (Ok p) tx w li) (λ m. then_ends c₀ (eqb cont 0) (type_of b s t) m) Composed
        (λ m. ap (λ (i : ℕ). then_ends i (eqb cont 0) (type_of b s t) m) ec ∙ ended_is (eqb cont 0) refl g m)

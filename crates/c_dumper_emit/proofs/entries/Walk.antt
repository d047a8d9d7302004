-- The walk of emission with entries: what each return comes to, against the rules. Assumes nothing.
use Prim.Native.Nat.{ℕ, zero, suc, ◌+◌, ◌-◌, ◌<◌, ◌≤◌}
use mathlib.Core.Path.{◌≡◌, refl, ap, ◌∙◌, sym, subst}
use mathlib.Core.List.{List}
use mathlib.Core.Bool.{Bool, true, false, not, ◌&&◌, ◌||◌, true≢false}
use mathlib.Core.Logic.{◌⊎◌, inl, inr}
use native.Mathlib.Omega.{arith}
use lib.Dec.{eqb}
use borrow.Author.Tests.{eqb-false, eq-eqb, ne_eqb}
use Rattle.std.specs.Prelude.{Ok, Err, IsErrAnd}
use Rattle.spec_bytes.specs.declared.refusal.Refusal.{Refusal}
use Rattle.spec_bytes.specs.declared.refusal.Refusal.TheVariants.{TooDeep, Cycle, NamelessTypedef}
use Rattle.spec_c_dumper.specs.rules.Order.{Node, ignored, plain, listed, through, ptr, tdef, proto, comp, Mark, new, busy, done, is_done}
use Rattle.spec_c_dumper.specs.rules.Machine.{Out, wrote, is_zero, obind, eeach, once, mention, again, leaf, allowed, look}
use Rattle.spec_c_dumper.specs.rules.Types.{BtfType, Btf as Rules, node_of, is_named, member_types, table_of}
use Rattle.spec_c_dumper.specs.alignment_once.Writers.{definition_once, forward_once}
use Rattle.btf_layout.specs.asked.Asked.{work_asks}
use Rattle.spec_type_table.specs.declared.types.TypeTable.{TypeTable}
use Rattle.spec_type_table.specs.declared.types.BtfType.{BtfType as Record}
use Rattle.spec_type_table.specs.Cells.{get_field, put_field}
use Rattle.spec_type_table.specs.Records.{kind_of, record_by_id}
use Rattle.spec_type_table.specs.Table.{from, members_of, type_of, btf_of, work_naming}
use Rattle.spec_type_table.specs.declared.kind.Kind.{Kind}
use Rattle.spec_type_table.specs.declared.kind.Kind.TheVariants as kinds
use Rattle.spec_type_table.specs.Kinds.{kind_named}
use Rattle.spec_type_table.proofs.KindTypes.{type_as, type_is}
use Rattle.c_dumper_dependency_order.specs.order_state.Work.{mark_of}
use Rattle.c_dumper_dependency_order.proofs.begin.Laws.{done_yes}
use Rattle.c_dumper_dependency_order.proofs.order_state.Laws.{type_at, node_at, named_at}
use Rattle.spec_session.specs.emission.Slices.{Slices, line_in, work_machine}
use Rattle.spec_c_dumper.specs.origins.Causes.{Entry, entry, Traced, up_to, line, cause_at, shows_in}
use Rattle.c_dumper_emit.specs.declared.entries.Pen.{Pen}
use Rattle.c_dumper_emit.specs.entries.Traced.{Lent, traced_out, line_n, shown_of, mach_n, emit_n, new_n, again_n, leaf_n, has_n, once_n, mention_n, state_n}
use Rattle.c_dumper_emit.proofs.entries.Frame.{Stays, stays_then, table_emit}
use Rattle.c_dumper_emit.proofs.entries.Laws.{Penned, traced_at, with_n, ended, obind_then, obind_wrote, obind_same, then, at_pen, same_slices, stop_slices, work_last, same_table, entry_stays}

-- ---- emit_once, emit_mention
module _ (b : TypeTable) (B : Rules) (lent : Lent) (ty : BtfType) (n : ℕ) (p : Pen) (t w li : List ℕ) (id : ℕ) where
  had_is : (had : Bool) → had ≡ not (eqb (get_field w id 3) 0) → had ≡ has_n b B lent (traced_at n p t w li) id
  unfolding has_n work_machine
  had_is had e = e

  module _ (e : Entry) (had : Bool) (eh : had ≡ not (eqb (get_field w id 3) 0)) where
    abbrev once_then : Traced Slices → Out (Traced Slices) (Unit {0})
    once_then m = once_n b B lent ty e (has_n b B lent m id) m id

    pub once_had : had ≡ true → traced_out n (Ok p) t w li ≡ obind (traced_out n (Ok p) t w li) once_then
    unfolding once_n once
    once_had h = same_slices n p t w li once_then (ap (λ (x : Bool). once_n b B lent ty e x (traced_at n p t w li) id) (sym (had_is had eh) ∙ h))

    pub once_new : had ≡ false → (y : Out (Traced Slices) (Unit {0})) → y ≡ obind (traced_out n (Ok p) t w li) (λ m. line_n lent (shown_of ty) e (forward_once (work_asks b.types B) (work_naming b) B id ty) m)
        → (x : Out (Traced Slices) (Unit {0})) → x ≡ obind y (λ m. wrote (with_n m (put_field m.mach.work id 3 1))) → x ≡ obind (traced_out n (Ok p) t w li) once_then
    unfolding once_n once work_machine
    once_new h y ey x ex =
        then (traced_out n (Ok p) t w li) (λ m. line_n lent (shown_of ty) e (forward_once (work_asks b.types B) (work_naming b) B id ty) m) (λ m. wrote (with_n m (put_field m.mach.work id 3 1))) y x ey ex
        ∙ at_pen n p t w li (λ m. obind (line_n lent (shown_of ty) e (forward_once (work_asks b.types B) (work_naming b) B id ty) m) (λ m'. wrote (with_n m' (put_field m'.mach.work id 3 1)))) once_then
        (ap (λ (x : Bool). once_n b B lent ty e x (traced_at n p t w li) id) (sym (sym (had_is had eh) ∙ h)))

  pub mention_self : (cont : ℕ) → id ≡ cont → traced_out n (Ok p) t w li ≡ obind (traced_out n (Ok p) t w li) (λ m. mention_n b B lent ty cont m id)
  unfolding mention_n once_n once
  mention_self cont e = same_slices n p t w li (λ m. mention_n b B lent ty cont m id)
      (ap (λ (x : Bool). once_n b B lent ty (entry id 2 cont) x (traced_at n p t w li) id) (or_true (has_n b B lent (traced_at n p t w li) id) (eqb id cont) (eq-eqb id cont e)))
    where
      or_true : (x y : Bool) → y ≡ true → (x || y) ≡ true
      or_true true y h = refl
      or_true false y h = h

  pub mention_other : (cont : ℕ) → (id ≡ cont → ⊥) → (z : Entry) → z ≡ entry id 2 cont → (x : Out (Traced Slices) (Unit {0})) → x ≡ obind (traced_out n (Ok p) t w li) (λ m. once_n b B lent ty z (has_n b B lent m id) m id) → x ≡ obind (traced_out n (Ok p) t w li) (λ m. mention_n b B lent ty cont m id)
  unfolding mention_n
  mention_other cont e z ez x ex = ex ∙ ap (λ (y : Entry). obind (traced_out n (Ok p) t w li) (λ m. once_n b B lent ty y (has_n b B lent m id) m id)) ez ∙ obind_same (traced_out n (Ok p) t w li) (λ m. once_n b B lent ty (entry id 2 cont) (has_n b B lent m id) m id) (λ m. mention_n b B lent ty cont m id)
      (λ m. ap (λ (y : Bool). once_n b B lent ty (entry id 2 cont) y m id) (or_false (has_n b B lent m id) (eqb id cont) (ne_eqb id cont e)))
    where
      or_false : (x y : Bool) → y ≡ false → x ≡ (x || y)
      or_false true y h = refl
      or_false false y h = sym h

-- ---- emit_again
-- the line of an id, by its type
module _ (b : TypeTable) (B : Rules) (lent : Lent) (why : ℕ → Entry) (cont : ℕ) (ty : BtfType) where
  pub once_fwd : (m : Traced Slices) (id : ℕ) (had : Bool) → ty ≡ B.type_by_id id → once_n b B lent ty (entry id 2 cont) had m id ≡ once (mach_n b B lent why cont) (table_of B) (mach_n b B lent why cont).fwd_line id had m
  unfolding once_n once work_machine line_n
  once_fwd m id true e = refl
  once_fwd m id false e = ap (λ (y : BtfType). obind (line (λ z. tt) (up_to lent.room) (lent.lists && shown_of y) (entry id 2 cont) (λ k. line_in (forward_once (work_asks b.types B) (work_naming b) B id y) k) m) (λ m'. wrote (with_n m' (put_field m'.mach.work id 3 1)))) e

  pub once_alias : (e : Entry) (m : Traced Slices) (id : ℕ) → e ≡ cause_at 3 (why id) id cont → (had : Bool) → ty ≡ B.type_by_id id → once_n b B lent ty e had m id ≡ once (mach_n b B lent why cont) (table_of B) (mach_n b B lent why cont).alias_line id had m
  unfolding once_n once work_machine line_n
  once_alias e m id ee true q = refl
  once_alias e m id ee false q =
      ap (λ (y : BtfType). obind (line (λ z. tt) (up_to lent.room) (lent.lists && shown_of y) e (λ k. line_in (forward_once (work_asks b.types B) (work_naming b) B id y) k) m) (λ m'. wrote (with_n m' (put_field m'.mach.work id 3 1)))) q
      ∙ ap (λ (z : Entry). obind (line (λ z. tt) (up_to lent.room) (lent.lists && shows_in B id) z (λ k. line_in (forward_once (work_asks b.types B) (work_naming b) B id (B.type_by_id id)) k) m) (λ m'. wrote (with_n m' (put_field m'.mach.work id 3 1)))) ee

module _ (b : TypeTable) (s : List ℕ) (B : Rules) (lent : Lent) (why : ℕ → Entry) (m : Traced Slices) (id cont : ℕ) (t : Record) where
  again_kind : (y : Kind) → (y ≡ kinds.Struct → ⊥) → (y ≡ kinds.Union → ⊥) → (y ≡ kinds.Typedef → ⊥) → again (mach_n b B lent why cont) (table_of B) m id cont (node_of (type_as b s t y)) ≡ wrote m
  unfolding again
  again_kind kinds.Void n₁ n₂ n₃ = refl
  again_kind kinds.Int n₁ n₂ n₃ = refl
  again_kind kinds.Ptr n₁ n₂ n₃ = refl
  again_kind kinds.Array n₁ n₂ n₃ = refl
  again_kind kinds.Struct n₁ n₂ n₃ = absurd (n₁ refl)
  again_kind kinds.Union n₁ n₂ n₃ = absurd (n₂ refl)
  again_kind kinds.Enum n₁ n₂ n₃ = refl
  again_kind kinds.Fwd n₁ n₂ n₃ = refl
  again_kind kinds.Typedef n₁ n₂ n₃ = absurd (n₃ refl)
  again_kind kinds.Volatile n₁ n₂ n₃ = refl
  again_kind kinds.Const n₁ n₂ n₃ = refl
  again_kind kinds.Restrict n₁ n₂ n₃ = refl
  again_kind kinds.Func n₁ n₂ n₃ = refl
  again_kind kinds.FuncProto n₁ n₂ n₃ = refl
  again_kind kinds.Var n₁ n₂ n₃ = refl
  again_kind kinds.Datasec n₁ n₂ n₃ = refl
  again_kind kinds.Float n₁ n₂ n₃ = refl
  again_kind kinds.DeclTag n₁ n₂ n₃ = refl
  again_kind kinds.TypeTag n₁ n₂ n₃ = refl
  again_kind kinds.Enum64 n₁ n₂ n₃ = refl
  again_kind kinds.Unknown n₁ n₂ n₃ = refl

module _ (b : TypeTable) (s : List ℕ) (lent : Lent) (why : ℕ → Entry) (n : ℕ) (p : Pen) (tx w li : List ℕ) (id cont : ℕ) where
  abbrev B : Rules
  B = btf_of b s w

  abbrev Again : Out (Traced Slices) (Unit {0}) → Type 0
  Again x = x ≡ obind (traced_out n (Ok p) tx w li) (λ m. again_n b B lent why cont m id)

  again_quiet : (m : Traced Slices) (nd : Node) → (mach_n b B lent why cont).has_fwd m id ≡ true → again (mach_n b B lent why cont) (table_of B) m id cont nd ≡ wrote m
  unfolding again once mention
  again_quiet m ignored e = refl
  again_quiet m plain e = refl
  again_quiet m (listed f) e = refl
  again_quiet m (through a t) e = refl
  again_quiet m (ptr t) e = refl
  again_quiet m (tdef t) e = ap (λ (h : Bool). once (mach_n b B lent why cont) (table_of B) (mach_n b B lent why cont).alias_line id h m) e
  again_quiet m (proto ts) e = refl
  again_quiet m (comp ms) e = ap (λ (h : Bool). mention (mach_n b B lent why cont) (table_of B) (h || eqb id cont) ((table_of B).named id) id m) e

  module _ (had : Bool) (eh : had ≡ not (eqb (get_field w id 3) 0)) where
    fwd_is : (mach_n b B lent why cont).has_fwd (traced_at n p tx w li) id ≡ had
    unfolding work_machine
    fwd_is = sym eh

    pub again_had : had ≡ true → Again (traced_out n (Ok p) tx w li)
    unfolding again_n
    again_had h = same_slices n p tx w li (λ m. again_n b B lent why cont m id) (again_quiet (traced_at n p tx w li) ((table_of B).node id) (fwd_is ∙ h))

    module _ (hf : had ≡ false) (t : Record) (et : t ≡ record_by_id b s w id) where
      kind_node : (k : Kind) → k ≡ kind_named (kind_of t.info) → (y : Kind) → k ≡ y → again (mach_n b B lent why cont) (table_of B) (traced_at n p tx w li) id cont ((table_of B).node id) ≡ again (mach_n b B lent why cont) (table_of B) (traced_at n p tx w li) id cont (node_of (type_as b s t y))
      kind_node k ek y e = ap (again (mach_n b B lent why cont) (table_of B) (traced_at n p tx w li) id cont) (node_at b s w id t et)
          ∙ ap (λ (z : BtfType). again (mach_n b B lent why cont) (table_of B) (traced_at n p tx w li) id cont (node_of z)) (type_is b s t k ek y e)

      comp_at : (k : Kind) → k ≡ kind_named (kind_of t.info) → (k ≡ kinds.Struct) ⊎ (k ≡ kinds.Union) → again (mach_n b B lent why cont) (table_of B) (traced_at n p tx w li) id cont ((table_of B).node id) ≡ mention (mach_n b B lent why cont) (table_of B) (eqb id cont) ((table_of B).named id) id (traced_at n p tx w li)
      unfolding again
      comp_at k ek g = go g
        where
          last : (ms : List ℕ) → again (mach_n b B lent why cont) (table_of B) (traced_at n p tx w li) id cont (comp ms) ≡ mention (mach_n b B lent why cont) (table_of B) (eqb id cont) ((table_of B).named id) id (traced_at n p tx w li)
          last ms = ap (λ (f : Bool). mention (mach_n b B lent why cont) (table_of B) (f || eqb id cont) ((table_of B).named id) id (traced_at n p tx w li)) (fwd_is ∙ hf)

          go : (k ≡ kinds.Struct) ⊎ (k ≡ kinds.Union) → again (mach_n b B lent why cont) (table_of B) (traced_at n p tx w li) id cont ((table_of B).node id) ≡ mention (mach_n b B lent why cont) (table_of B) (eqb id cont) ((table_of B).named id) id (traced_at n p tx w li)
          go (inl e) = kind_node k ek kinds.Struct e ∙ last (member_types (members_of b s t))
          go (inr e) = kind_node k ek kinds.Union e ∙ last (member_types (members_of b s t))

      module _ (k : Kind) (ek : k ≡ kind_named (kind_of t.info)) where
        module _ (g : (k ≡ kinds.Struct) ⊎ (k ≡ kinds.Union)) (nm : Bool) (en : nm ≡ is_named (type_of b s t)) where
          mention_is : (v f : Bool) → eqb id cont ≡ v → nm ≡ f → again (mach_n b B lent why cont) (table_of B) (traced_at n p tx w li) id cont ((table_of B).node id) ≡ mention (mach_n b B lent why cont) (table_of B) v f id (traced_at n p tx w li)
          mention_is v f ev ef = comp_at k ek g ∙ (λ i. mention (mach_n b B lent why cont) (table_of B) (ev i) ((named_at b s w id t et ∙ sym en ∙ ef) i) id (traced_at n p tx w li))

          pub again_nameless : (not (eqb id cont) && not nm) ≡ true → Again (traced_out n (Err Cycle) tx w li)
          unfolding again_n mention
          again_nameless h = go (eqb id cont) nm refl refl h
            where
              go : (v f : Bool) → eqb id cont ≡ v → nm ≡ f → (not v && not f) ≡ true → Again (traced_out n (Err Cycle) tx w li)
              go false false ev ef z = stop_slices n p tx w li Cycle (λ m. again_n b B lent why cont m id) (mention_is false false ev ef)
              go false true ev ef z = absurd (true≢false (sym z))
              go true f ev ef z = absurd (true≢false (sym z))

          pub again_mention : (not (eqb id cont) && not nm) ≡ false → (x : Out (Traced Slices) (Unit {0})) → x ≡ obind (traced_out n (Ok p) tx w li) (λ m. mention_n b B lent (type_of b s t) cont m id) → Again x
          unfolding again_n mention mention_n has_n once_n once
          again_mention h x ex = ex ∙ at_pen n p tx w li (λ m. mention_n b B lent (type_of b s t) cont m id) (λ m. again_n b B lent why cont m id) (said ∙ go (eqb id cont) nm refl refl h)
            where
              said : mention_n b B lent (type_of b s t) cont (traced_at n p tx w li) id ≡ once_n b B lent (type_of b s t) (entry id 2 cont) (eqb id cont) (traced_at n p tx w li) id
              said = ap (λ (v : Bool). once_n b B lent (type_of b s t) (entry id 2 cont) (v || eqb id cont) (traced_at n p tx w li) id) (fwd_is ∙ hf)

              go : (v f : Bool) → eqb id cont ≡ v → nm ≡ f → (not v && not f) ≡ false
                  → once_n b B lent (type_of b s t) (entry id 2 cont) (eqb id cont) (traced_at n p tx w li) id ≡ again (mach_n b B lent why cont) (table_of B) (traced_at n p tx w li) id cont ((table_of B).node id)
              go true f ev ef z = ap (λ (v : Bool). once_n b B lent (type_of b s t) (entry id 2 cont) v (traced_at n p tx w li) id) ev ∙ sym (mention_is true f ev ef)
              go false true ev ef z = ap (λ (v : Bool). once_n b B lent (type_of b s t) (entry id 2 cont) v (traced_at n p tx w li) id) ev
                  ∙ once_fwd b B lent why cont (type_of b s t) (traced_at n p tx w li) id false (sym (type_at b s w id t et)) ∙ sym (mention_is false true ev ef)
              go false false ev ef z = absurd (true≢false z)

        pub again_typedef : k ≡ kinds.Typedef → (e : Entry) → e ≡ cause_at 3 (why id) id cont → (x : Out (Traced Slices) (Unit {0})) → x ≡ obind (traced_out n (Ok p) tx w li) (λ m. once_n b B lent (type_of b s t) e (has_n b B lent m id) m id) → Again x
        unfolding again_n again has_n
        again_typedef k8 e ee x ex = ex ∙ at_pen n p tx w li (λ m. once_n b B lent (type_of b s t) e (has_n b B lent m id) m id) (λ m. again_n b B lent why cont m id)
            (once_alias b B lent why cont (type_of b s t) e (traced_at n p tx w li) id ee ((mach_n b B lent why cont).has_fwd (traced_at n p tx w li) id) (sym (type_at b s w id t et))
            ∙ sym (kind_node k ek kinds.Typedef k8))

        pub again_other : (k ≡ kinds.Struct → ⊥) → (k ≡ kinds.Union → ⊥) → (k ≡ kinds.Typedef → ⊥) → Again (traced_out n (Ok p) tx w li)
        unfolding again_n
        again_other n₁ n₂ n₃ = same_slices n p tx w li (λ m. again_n b B lent why cont m id) (kind_node k ek k refl ∙ again_kind b s B lent why (traced_at n p tx w li) id cont t k n₁ n₂ n₃)

-- ---- emit_type
pub zero_is : (c : ℕ) → is_zero c ≡ eqb c 0
zero_is zero = refl
zero_is (suc c) = sym (ne_eqb (suc c) 0 (λ e. omega arith))

module _ (b : TypeTable) (s : List ℕ) (lent : Lent) (why : ℕ → Entry) (n : ℕ) (p : Pen) (tx w li : List ℕ) (id cont left : ℕ) where
  abbrev Bt : Rules
  Bt = btf_of b s w

  abbrev em : ℕ → Traced Slices → ℕ → ℕ → Out (Traced Slices) (Unit {0})
  em k m y c = emit_n b Bt lent why k c m y

  abbrev Emits : Out (Traced Slices) (Unit {0}) → Type 0
  Emits x = x ≡ obind (traced_out n (Ok p) tx w li) (λ m. emit_n b Bt lent why left cont m id)

  pub too_deep : left ≡ 0 → Emits (traced_out n (Err TooDeep) tx w li)
  unfolding emit_n
  too_deep e = stop_slices n p tx w li TooDeep (λ m. emit_n b Bt lent why left cont m id) (ap (λ (l : ℕ). em l (traced_at n p tx w li) id cont) e)

  module _ (nz : left ≡ 0 → ⊥) where
    unroll : (k : Mark) → mark_of (get_field w id 13) ≡ k → em left (traced_at n p tx w li) id cont ≡ look (mach_n b Bt lent why cont) (table_of Bt) (λ m' y c. em (left - 1) m' y c) (traced_at n p tx w li) id cont k
    unfolding emit_n work_machine
    unroll k e =
        let l : left ≡ suc (left - 1) = omega arith in
        ap (λ (i : ℕ). em i (traced_at n p tx w li) id cont) l
        ∙ ap (look (mach_n b Bt lent why cont) (table_of Bt) (λ m' y c. em (left - 1) m' y c) (traced_at n p tx w li) id cont) e

    pub emit_done : mark_of (get_field w id 13) ≡ done → Emits (traced_out n (Ok p) tx w li)
    unfolding emit_n look
    emit_done e = same_slices n p tx w li (λ m. emit_n b Bt lent why left cont m id) (unroll done e)

    pub emit_busy : mark_of (get_field w id 13) ≡ busy → (x : Out (Traced Slices) (Unit {0})) → x ≡ obind (traced_out n (Ok p) tx w li) (λ m. again_n b Bt lent why cont m id) → Emits x
    unfolding emit_n look again_n
    emit_busy e x ex = ex ∙ at_pen n p tx w li (λ m. again_n b Bt lent why cont m id) (λ m. emit_n b Bt lent why left cont m id) (sym (unroll busy e))

    module _ (ne : mark_of (get_field w id 13) ≡ new) (t : Record) (et : t ≡ record_by_id b s w id) (nm : Bool) (en : nm ≡ is_named (type_of b s t)) where
      gate_is : (f : Bool) → (eqb cont 0 && not nm) ≡ f → em left (traced_at n p tx w li) id cont ≡ allowed (mach_n b Bt lent why cont) (table_of Bt) (λ m' y c. em (left - 1) m' y c) (traced_at n p tx w li) id cont f
      unfolding look
      gate_is f e = unroll new ne
          ∙ ap (λ (g : Bool). allowed (mach_n b Bt lent why cont) (table_of Bt) (λ m' y c. em (left - 1) m' y c) (traced_at n p tx w li) id cont (g && not ((table_of Bt).named id))) (zero_is cont)
          ∙ ap (λ (g : Bool). allowed (mach_n b Bt lent why cont) (table_of Bt) (λ m' y c. em (left - 1) m' y c) (traced_at n p tx w li) id cont (eqb cont 0 && not g)) (named_at b s w id t et ∙ sym en)
          ∙ ap (allowed (mach_n b Bt lent why cont) (table_of Bt) (λ m' y c. em (left - 1) m' y c) (traced_at n p tx w li) id cont) e

      pub emit_nameless : (eqb cont 0 && not nm) ≡ true → Emits (traced_out n (Err NamelessTypedef) tx w li)
      unfolding emit_n allowed
      emit_nameless e = stop_slices n p tx w li NamelessTypedef (λ m. emit_n b Bt lent why left cont m id) (gate_is true e)

      pub emit_fresh : (eqb cont 0 && not nm) ≡ false → (x : Out (Traced Slices) (Unit {0})) → x ≡ obind (traced_out n (Ok p) tx w li) (λ m. new_n b Bt lent why (left - 1) cont m id) → Emits x
      unfolding emit_n allowed new_n
      emit_fresh e x ex = ex ∙ at_pen n p tx w li (λ m. new_n b Bt lent why (left - 1) cont m id) (λ m. emit_n b Bt lent why left cont m id) (sym (gate_is false e))

  -- what is_emitted tells
  pub emit_skips : (f : Bool) → f ≡ (not (eqb left 0) && is_done (mark_of (get_field w id 13))) → f ≡ true → Emits (traced_out n (Ok p) tx w li)
  emit_skips f e t = emit_done (eqb-false left 0 (first (eqb left 0) (is_done (mark_of (get_field w id 13))) (sym e ∙ t))) (done_yes (mark_of (get_field w id 13)) (second (eqb left 0) (is_done (mark_of (get_field w id 13))) (sym e ∙ t)))
    where
      first : (x y : Bool) → (not x && y) ≡ true → x ≡ false
      first true y h = sym h
      first false y h = refl

      second : (x y : Bool) → (not x && y) ≡ true → y ≡ true
      second true y h = absurd (true≢false (sym h))
      second false y h = h

-- ---- emit_leaf
module _ (b : TypeTable) (s : List ℕ) (lent : Lent) (why : ℕ → Entry) (n : ℕ) (p : Pen) (tx w li : List ℕ) (id cont : ℕ) (t : Record) (et : t ≡ record_by_id b s w id) (is_fwd : Bool) where
  abbrev Leaf : Traced Slices → Out (Traced Slices) (Unit {0})
  Leaf m = leaf_n b (btf_of b s w) lent why is_fwd cont m id

  shown_is : (f : Bool) → (is_fwd || eqb cont 0) ≡ f → f ≡ (is_fwd || is_zero cont)
  shown_is f e = sym (ap (λ (g : Bool). is_fwd || g) (zero_is cont) ∙ e)

  pub leaf_shown : (is_fwd || eqb cont 0) ≡ true → (e : Entry) → e ≡ cause_at 2 (why id) id cont → (y : Out (Traced Slices) (Unit {0}))
      → y ≡ obind (traced_out n (Ok p) tx w li) (λ m. line_n lent true e (definition_once (work_asks b.types (btf_of b s w)) (work_naming b) (btf_of b s w) id (type_of b s t)) m)
      → (x : Out (Traced Slices) (Unit {0})) → x ≡ obind y (λ m. wrote (state_n id 2 m)) → x ≡ obind (traced_out n (Ok p) tx w li) Leaf
  unfolding leaf_n leaf work_machine line_n
  leaf_shown f e ee y ey x ex =
      then (traced_out n (Ok p) tx w li) (λ m. line_n lent true e (definition_once (work_asks b.types (btf_of b s w)) (work_naming b) (btf_of b s w) id (type_of b s t)) m) (λ m. wrote (state_n id 2 m)) y x ey ex
      ∙ obind_same (traced_out n (Ok p) tx w li) (λ m. obind (line_n lent true e (definition_once (work_asks b.types (btf_of b s w)) (work_naming b) (btf_of b s w) id (type_of b s t)) m) (λ m'. wrote (with_n m' (put_field m'.mach.work id 13 2)))) Leaf
      (λ m. ap (λ (y : BtfType). obind (line_n lent true e (definition_once (work_asks b.types (btf_of b s w)) (work_naming b) (btf_of b s w) id y) m) (λ m'. wrote (with_n m' (put_field m'.mach.work id 13 2)))) (sym (type_at b s w id t et))
      ∙ ap (λ (z : Entry). obind (line_n lent true z (definition_once (work_asks b.types (btf_of b s w)) (work_naming b) (btf_of b s w) id ((btf_of b s w).type_by_id id)) m) (λ m'. wrote (with_n m' (put_field m'.mach.work id 13 2)))) ee
      ∙ ap (λ (g : Bool). leaf (mach_n b (btf_of b s w) lent why cont) (table_of (btf_of b s w)) g id m) (shown_is true f))

  pub leaf_quiet : (is_fwd || eqb cont 0) ≡ false → (w₂ : List ℕ) → w₂ ≡ put_field w id 13 2 → traced_out n (Ok p) tx w₂ li ≡ obind (traced_out n (Ok p) tx w li) Leaf
  unfolding leaf_n leaf work_machine
  leaf_quiet f w₂ ew =
      work_last n (Ok p) tx w li (λ u. put_field u id 13 2) w₂ ew
      ∙ obind_same (traced_out n (Ok p) tx w li) (λ m. wrote (with_n m (put_field m.mach.work id 13 2))) Leaf (λ m. ap (λ (g : Bool). leaf (mach_n b (btf_of b s w) lent why cont) (table_of (btf_of b s w)) g id m) (shown_is false f))

-- ---- emit_entries, emit_ordered: what is left is the whole
pub record Rest (b : TypeTable) (s : List ℕ) (lent : Lent) (why : ℕ → Entry) (w₀ : List ℕ) (left cont : ℕ) (id : ℕ → ℕ) (n : ℕ) (p₀ : Pen) (tx₀ l₀ : List ℕ) (vlen : ℕ) (p : Penned) (tx w li : List ℕ) (k : ℕ) : Type 0 where
  pub whole : obind (traced_out n (Ok p₀) tx₀ w₀ l₀) (λ m. eeach (emit_n b (btf_of b s w₀) lent why left cont) (from id 0 vlen) m) ≡ obind (traced_out n p tx w li) (λ m. eeach (emit_n b (btf_of b s w₀) lent why left cont) (from id k (vlen - k)) m)
  pub table : Stays (btf_of b s) w₀ (traced_out n p tx w li)

module _ (b : TypeTable) (s : List ℕ) (lent : Lent) (why : ℕ → Entry) (w₀ : List ℕ) (left cont : ℕ) (id : ℕ → ℕ) (n : ℕ) (p₀ : Pen) (tx₀ l₀ : List ℕ) (vlen : ℕ) where
  pub rest_start : Rest b s lent why w₀ left cont id n p₀ tx₀ l₀ vlen (Ok p₀) tx₀ w₀ l₀ 0
  rest_start = record { whole = (let d : vlen ≡ vlen - 0 = omega arith in ap (λ (i : ℕ). obind (traced_out n (Ok p₀) tx₀ w₀ l₀) (λ m. eeach (emit_n b (btf_of b s w₀) lent why left cont) (from id 0 i) m)) d); table = entry_stays b s (btf_of b s) n p₀ tx₀ w₀ l₀ }

  module _ (p : Pen) (tx w li : List ℕ) (k : ℕ) (inv : Rest b s lent why w₀ left cont id n p₀ tx₀ l₀ vlen (Ok p) tx w li k) where
    module _ (y : ℕ) (ey : y ≡ id k) (lent₁ : Lent) (er : lent₁ ≡ lent) (q : Penned) (tx₁ w₁ l₁ : List ℕ) (e : traced_out n q tx₁ w₁ l₁ ≡ obind (traced_out n (Ok p) tx w li) (λ m. emit_n b (btf_of b s w) lent₁ why left cont m y)) where
      -- the call, by the table at the start
      call₀ : traced_out n q tx₁ w₁ l₁ ≡ obind (traced_out n (Ok p) tx w li) (λ m. emit_n b (btf_of b s w₀) lent why left cont m (id k))
      call₀ = e ∙ ap (λ (r : Lent). obind (traced_out n (Ok p) tx w li) (λ m. emit_n b (btf_of b s w) r why left cont m y)) er ∙ same_table b s n (Ok p) tx w li w₀ (λ Q m. emit_n b Q lent why left cont m y) inv.table
          ∙ ap (λ (x : ℕ). obind (traced_out n (Ok p) tx w li) (λ m. emit_n b (btf_of b s w₀) lent why left cont m x)) ey

      pub rest_turn : k < vlen → Rest b s lent why w₀ left cont id n p₀ tx₀ l₀ vlen q tx₁ w₁ l₁ (k + 1)
      unfolding from eeach emit_n
      rest_turn h = record {
        whole = (
            let d : vlen - k ≡ suc (vlen - (k + 1)) = omega arith in
            inv.whole
            ∙ ap (λ (i : ℕ). obind (traced_out n (Ok p) tx w li) (λ m. eeach (emit_n b (btf_of b s w₀) lent why left cont) (from id k i) m)) d
            ∙ sym (obind_then (traced_out n (Ok p) tx w li) (λ m. emit_n b (btf_of b s w₀) lent why left cont m (id k)) (λ m. eeach (emit_n b (btf_of b s w₀) lent why left cont) (from id (k + 1) (vlen - (k + 1))) m))
            ∙ ap (λ (o : Out (Traced Slices) (Unit {0})). obind o (λ m. eeach (emit_n b (btf_of b s w₀) lent why left cont) (from id (k + 1) (vlen - (k + 1))) m)) (sym call₀)
            );
        table = subst (Stays (btf_of b s) w₀) (sym call₀) (stays_then (btf_of b s) w₀ (traced_out n (Ok p) tx w li) (λ m. emit_n b (btf_of b s w₀) lent why left cont m (id k)) inv.table (λ m. table_emit b s (btf_of b s w₀) lent why left m (id k) cont));
      }

    -- an id that is_emitted passes over
    pub rest_skip : (y : ℕ) → y ≡ id k → (f : Bool) → f ≡ (not (eqb left 0) && is_done (mark_of (get_field w y 13))) → f ≡ true → k < vlen → Rest b s lent why w₀ left cont id n p₀ tx₀ l₀ vlen (Ok p) tx w li (k + 1)
    rest_skip y ey f e t h = rest_turn y ey lent refl (Ok p) tx w li (emit_skips b s lent why n p tx w li y cont left f e t) h

    pub rest_end : vlen ≤ k → traced_out n (Ok p) tx w li ≡ obind (traced_out n (Ok p₀) tx₀ w₀ l₀) (λ m. eeach (emit_n b (btf_of b s w₀) lent why left cont) (from id 0 vlen) m)
    unfolding from eeach
    rest_end h = let d : vlen - k ≡ 0 = omega arith in sym (inv.whole ∙ ap (λ (i : ℕ). obind (traced_out n (Ok p) tx w li) (λ m. eeach (emit_n b (btf_of b s w₀) lent why left cont) (from id k i) m)) d ∙ obind_wrote (traced_out n (Ok p) tx w li))

  -- an id that was refused, so that what `?` hands on is the whole
  pub rest_halts : (c : Refusal) (tx w li : List ℕ) (k : ℕ) → Rest b s lent why w₀ left cont id n p₀ tx₀ l₀ vlen (Err c) tx w li k → (r : Penned) → IsErrAnd r (λ e. e ≡ c)
      → traced_out n r tx w li ≡ obind (traced_out n (Ok p₀) tx₀ w₀ l₀) (λ m. eeach (emit_n b (btf_of b s w₀) lent why left cont) (from id 0 vlen) m)
  rest_halts c tx w li k inv r e = ended n tx w li c r (λ m. eeach (emit_n b (btf_of b s w₀) lent why left cont) (from id k (vlen - k)) m) e ∙ sym inv.whole

-- What each return of ordering's code comes to, against the rules. Assumes nothing.
use Prim.Native.Nat.{ℕ, suc, ◌+◌, ◌-◌, ◌<◌, ◌≤◌}
use mathlib.Core.Path.{◌≡◌, refl, ap, ◌∙◌, sym}
use mathlib.Core.List.{List, [], ◌∷◌}
use mathlib.Core.Bool.{Bool, true, false, not, ◌&&◌, ◌||◌, true≢false}
use mathlib.Core.Logic.{◌⊎◌, inl, inr}
use native.Mathlib.Omega.{arith}
use Rattle.std.specs.Prelude.{Option, Result, Ok, Err, is_ok, IsErrAnd}
use Rattle.spec_bytes.specs.declared.refusal.Refusal.TheVariants.{TooDeep, CeilingPassed}
use Rattle.spec_c_dumper.specs.rules.Order.{Table, Mark, new, busy, done, is_done, push_if, finish}
use Rattle.spec_c_dumper.specs.rules.Types.{node_of, is_named, table_of}
use Rattle.spec_c_dumper.specs.ceiling.Ceiling.{Limit, allows, one_call, Told, told, halted, then_bind, each_within, meet_within, enter_within, alias_within, fresh_within, visit_within}
use Rattle.spec_c_dumper.specs.origins.Causes.{is_around}
use Rattle.spec_type_table.specs.declared.types.TypeTable.{TypeTable}
use Rattle.spec_type_table.specs.declared.types.BtfType.{BtfType as Record}
use Rattle.spec_type_table.specs.declared.types.Entries.{Entries}
use Rattle.spec_type_table.specs.declared.node.Node.{Node as Code}
use Rattle.spec_type_table.specs.declared.node.Node.TheVariants as code
use Rattle.spec_type_table.specs.Cells.{get_field, put_field}
use Rattle.spec_bytes.specs.words.Words.{one_more}
use Rattle.spec_type_table.specs.Records.{entries_of, record_by_id}
use Rattle.spec_type_table.specs.Table.{from, type_of, btf_of}
use Rattle.spec_type_table.specs.Nodes.{node_is, member_ids, param_ids}
use Rattle.c_dumper_dependency_order.specs.declared.entries.Held.{Held}
use Rattle.c_dumper_dependency_order.specs.declared.entries.Held.TheVariants.{Members, Params}
use Rattle.c_dumper_dependency_order.specs.entries.Entries.{count_of, entry_type, entry_ids}
use Rattle.c_dumper_dependency_order.specs.declared.order_state.Order.{Order}
use Rattle.c_dumper_dependency_order.specs.declared.order_state.Halted.{Halted}
use Rattle.c_dumper_dependency_order.specs.declared.leaders.Way.{Way}
use Rattle.c_dumper_dependency_order.specs.order_state.Work.{mark_of, code as code_of, work_store, table_in, strong_of, refused_by}
use Rattle.c_dumper_dependency_order.specs.begin.Start.{limit_of, with_made, opened_by, is_known, is_passable, met_by}
use Rattle.c_dumper_dependency_order.specs.leaders.Leaders.{inside_of, way_for, note_in, MarksAndLeaders, kept_store, order_kept, kept_of, kept_out, alias_kept, way_kept, fresh_kept, enter_kept}
use Rattle.c_dumper_dependency_order.proofs.order_state.Frame.{Stays, on, off, table_mark, table_kept}
use Rattle.c_dumper_dependency_order.proofs.begin.Laws.{Known, known_yes}
use Rattle.c_dumper_dependency_order.proofs.order_state.Laws.{get_at, node_at, node_is_lem, named_at, comp_is}

-- `?` hands on the refusal
pub handed : (h : Halted) (r : Result Order Halted) (w l : List ℕ) (x : Told MarksAndLeaders) → IsErrAnd r (λ e. e ≡ h) → kept_out (Err h) w l ≡ x → kept_out r w l ≡ x
handed h (Ok o) w l x e f = absurd e
handed h (Err g) w l x e f = ap (λ (u : Halted). kept_out (Err u) w l) e ∙ f

-- a refusal is what comes of all that follows
pub ends : (h : Halted) (w l : List ℕ) (k : MarksAndLeaders → Bool → ℕ → Told MarksAndLeaders) (x : Told MarksAndLeaders) → kept_out (Err h) w l ≡ x → (w' l' : List ℕ) → kept_out (Err h) w' l' ≡ then_bind x k
unfolding kept_out then_bind
ends h w l k x e w' l' = ap (λ (r : Told MarksAndLeaders). then_bind r k) e

-- what follows begins with what the answer says
pub follows : (o : Order) (w l : List ℕ) (k : MarksAndLeaders → Bool → ℕ → Told MarksAndLeaders) (x : Told MarksAndLeaders) → kept_out (Ok o) w l ≡ x → (y : Told MarksAndLeaders) → y ≡ k (kept_of o w l) o.is_strong o.made → y ≡ then_bind x k
unfolding kept_out then_bind
follows o w l k x e y h = h ∙ ap (λ (r : Told MarksAndLeaders). then_bind r k) e

pub flagged : (o : Order) (w l : List ℕ) (s : Bool) (r : Order) → r ≡ strong_of o s → kept_out (Ok r) w l ≡ told (kept_of o w l) s o.made
unfolding kept_out
flagged o w l s r e = ap (λ (x : Order). kept_out (Ok x) w l) e

-- ---- the store
pub pushed : (o : Order) (w l : List ℕ) (id : ℕ) (v : Way) (n : ℕ) (w' l' : List ℕ) → l' ≡ note_in v l id → w' ≡ put_field w o.len 11 id → n ≡ one_more o.len
    → kept_out (Ok (record { made = o.made; len = n; is_strong = o.is_strong })) w' l' ≡ told ((kept_store v).push id (kept_of o w l)) o.is_strong o.made
unfolding kept_out kept_store work_store
pushed o w l id v n w' l' el ew en = λ i. told (record { marks = record { work = ew i; len = en i }; leaders = el i }) o.is_strong o.made

-- a mark set
marked : (o : Order) (w l : List ℕ) (v : Way) (d : Mark) (id : ℕ) (w' : List ℕ) → w' ≡ put_field w id 1 (code_of d) → kept_of o w' l ≡ (kept_store v).mark d id (kept_of o w l)
unfolding kept_store work_store
marked o w l v d id w' ew = ap (λ (u : List ℕ). kept_of o u l) ew

done_at : (o : Order) (w l : List ℕ) (v : Way) (id : ℕ) (s : Bool) (w' : List ℕ) (r : Order) → w' ≡ put_field w id 1 2 → r ≡ strong_of o s
    → kept_out (Ok r) w' l ≡ told ((kept_store v).mark done id (kept_of o w l)) s o.made
done_at o w l v id s w' r ew er = flagged o w' l s r er ∙ ap (λ (m : MarksAndLeaders). told m s o.made) (marked o w l v done id w' ew)

pub finish_bare : (o : Order) (w l : List ℕ) (id : ℕ) (v : Way) (s : Bool) (r : Order) (w₂ : List ℕ) → w₂ ≡ put_field w id 1 2 → r ≡ strong_of o s
    → kept_out (Ok r) w₂ l ≡ told (finish (kept_store v) false id (kept_of o w l)) s o.made
unfolding push_if
finish_bare o w l id v s r w₂ ew er = done_at o w l v id s w₂ r ew er

pub finish_listed : (o : Order) (w l : List ℕ) (id : ℕ) (v : Way) (lists s : Bool) (p : Order) (w₁ l₁ : List ℕ) (r : Order) (w₂ : List ℕ) → lists ≡ true
    → kept_out (Ok p) w₁ l₁ ≡ told ((kept_store v).push id (kept_of o w l)) o.is_strong o.made
    → kept_out (Ok r) w₂ l₁ ≡ told (finish (kept_store v) false id (kept_of p w₁ l₁)) s p.made
    → kept_out (Ok r) w₂ l₁ ≡ told (finish (kept_store v) lists id (kept_of o w l)) s o.made
unfolding kept_out then_bind push_if
finish_listed o w l id v lists s p w₁ l₁ r w₂ t e f =
    f
    ∙ ap (λ (x : Told MarksAndLeaders). then_bind x (λ m _ j. told ((kept_store v).mark done id m) s j)) e
    ∙ ap (λ (q : Bool). told (finish (kept_store v) q id (kept_of o w l)) s o.made) (sym t)

-- ---- a typedef
module _ (o : Order) (w l : List ℕ) (id : ℕ) (weak : Bool) (v : Way) (r : Order) where
  pub alias_off : (not weak || o.is_strong) ≡ false → r ≡ strong_of o false → kept_out (Ok r) w l ≡ alias_kept v (kept_of o w l) id weak o.is_strong o.made
  unfolding alias_kept alias_within
  alias_off e er = flagged o w l false r er
      ∙ ap (λ (t : Bool). alias_within (kept_store v) t (is_done (work_store.get (kept_of o w l).marks id)) (kept_of o w l) id o.made) (sym e)

  pub alias_on : (d : Bool) (w' l' : List ℕ) → (not weak || o.is_strong) ≡ true → d ≡ is_done (mark_of (get_field w id 1))
      → kept_out (Ok r) w' l' ≡ told (finish (kept_store v) (not d) id (kept_of o w l)) true o.made → kept_out (Ok r) w' l' ≡ alias_kept v (kept_of o w l) id weak o.is_strong o.made
  unfolding alias_kept alias_within
  alias_on d w' l' e es er =
      er ∙ ap (λ (t : Bool). told (finish (kept_store v) (not t) id (kept_of o w l)) true o.made) (es ∙ ap is_done (sym (get_at (kept_of o w l).marks id)))
      ∙ ap (λ (t : Bool). alias_within (kept_store v) t (is_done (work_store.get (kept_of o w l).marks id)) (kept_of o w l) id o.made) (sym e)

-- ---- an id in progress
met_kept : (p : Order) (w l : List ℕ) (c : Bool) → kept_out (met_by c p) w l ≡ meet_within c (kept_of p w l) p.made
unfolding kept_out met_by meet_within
met_kept p w l true = refl
met_kept p w l false = refl

-- ---- order_type
module _ (lim : Limit) (T : Table) (o : Order) (w l : List ℕ) (id left : ℕ) (weak : Bool) (v : Way) where
  abbrev Ordered : Told MarksAndLeaders → Type 0
  Ordered x = x ≡ order_kept lim v left T (kept_of o w l) id weak o.made

  pub too_deep : (h : Halted) → left ≡ 0 → h ≡ refused_by o TooDeep → Ordered (kept_out (Err h) w l)
  unfolding kept_out order_kept
  too_deep h e eh = ap (λ (u : Halted). kept_out (Err u) w l) eh ∙ ap (λ (n : ℕ). order_kept lim v n T (kept_of o w l) id weak o.made) (sym e)

  module _ (n : left ≡ 0 → ⊥) where
    inside : order_kept lim v left T (kept_of o w l) id weak o.made ≡ order_kept lim v (suc (left - 1)) T (kept_of o w l) id weak o.made
    inside = let q : left ≡ suc (left - 1) = omega arith in ap (λ (i : ℕ). order_kept lim v i T (kept_of o w l) id weak o.made) q

    opened_yes : allows lim o.made ≡ true → opened_by lim o ≡ Ok (with_made o (one_call lim o.made))
    unfolding opened_by
    opened_yes a = rw (opened_by, a) refl

    opened_no : allows lim o.made ≡ false → opened_by lim o ≡ Err (refused_by o CeilingPassed)
    unfolding opened_by
    opened_no a = rw (opened_by, a) refl

    -- 22: "when one more call would pass the ceiling"
    pub none_left : (h : Halted) → Err h ≡ opened_by lim o → Ordered (kept_out (Err h) w l)
    unfolding kept_out order_kept
    none_left h eh = go (allows lim o.made) refl
      where
        go : (a : Bool) → allows lim o.made ≡ a → Ordered (kept_out (Err h) w l)
        go true a = absurd (true≢false (ap is_ok (sym (eh ∙ opened_yes a))))
        go false a = ap (λ (u : Result Order Halted). kept_out u w l) (eh ∙ opened_no a) ∙ sym (inside ∙ rw (order_kept, a) refl)

    -- the call is opened
    module _ (p : Order) (ep : Ok p ≡ opened_by lim o) (st : ℕ) (es : st ≡ get_field w id 1) where
      allowed : allows lim o.made ≡ true
      allowed = go (allows lim o.made) refl
        where
          go : (a : Bool) → allows lim o.made ≡ a → a ≡ true
          go true a = refl
          go false a = absurd (true≢false (ap is_ok (ep ∙ opened_no a)))

      counts : p ≡ with_made o (one_call lim o.made)
      counts = inj p (with_made o (one_call lim o.made)) (ep ∙ opened_yes allowed)
        where
          inj : (x y : Order) → ◌≡◌ {A = Result Order Halted} (Ok x) (Ok y) → x ≡ y
          inj x y e = cc

      abbrev rec : MarksAndLeaders → ℕ → Bool → ℕ → Told MarksAndLeaders
      rec s' x w' j = order_kept lim (way_for (is_around (T.node id)) v id) (left - 1) T s' x w' j

      -- by the clause of the mark that was read
      opened : (k : Mark) → mark_of st ≡ k → (x : Told MarksAndLeaders) → x ≡ visit_within (kept_store v) T rec (kept_of p w l) id weak k p.made → Ordered x
      unfolding order_kept
      opened k e x ex =
          ex ∙ ap (λ (u : Order). visit_within (kept_store v) T rec (kept_of u w l) id weak k u.made) counts
          ∙ sym (inside ∙ rw (order_kept, allowed) (ap (λ (d : Mark). visit_within (kept_store v) T rec (kept_of o w l) id weak d (one_call lim o.made)) (get_at (kept_of o w l).marks id ∙ ap mark_of (sym es) ∙ e)))

      pub order_done : (r : Order) → mark_of st ≡ done → r ≡ strong_of p true → Ordered (kept_out (Ok r) w l)
      unfolding visit_within
      order_done r e er = opened done e (kept_out (Ok r) w l) (flagged p w l true r er)

      pub order_busy : (r : Result Order Halted) → mark_of st ≡ busy → r ≡ met_by (is_passable T id weak) p → Ordered (kept_out r w l)
      unfolding visit_within is_passable
      order_busy r e er = opened busy e (kept_out r w l) (ap (λ (u : Result Order Halted). kept_out u w l) er ∙ met_kept p w l (is_passable T id weak))

      pub order_fresh : (x : Told MarksAndLeaders) → mark_of st ≡ new → x ≡ fresh_kept lim v T (left - 1) (kept_of p w l) id weak p.made → Ordered x
      unfolding visit_within fresh_kept
      order_fresh x e ex = opened new e x ex

-- an id that is known to be ordered
module _ (ceiling : Option ℕ) (T : Table) (o : Order) (w l : List ℕ) (id left : ℕ) (weak : Bool) (v : Way) (a : Bool) (ea : a ≡ is_known ceiling left o w id) (t : a ≡ true) where
  known : Known ceiling left o w id
  known = known_yes ceiling left o w id (sym ea ∙ t)

  pub order_known : (p : Order) → Ok p ≡ opened_by (limit_of ceiling) o → (r : Order) → r ≡ strong_of p true → kept_out (Ok r) w l ≡ order_kept (limit_of ceiling) v left T (kept_of o w l) id weak o.made
  order_known p ep r er = order_done (limit_of ceiling) T o w l id left weak v known.deep p ep (get_field w id 1) refl r known.state er

  pub known_refused : (h : Halted) → Err h ≡ opened_by (limit_of ceiling) o → kept_out (Err h) w l ≡ order_kept (limit_of ceiling) v left T (kept_of o w l) id weak o.made
  known_refused h eh = none_left (limit_of ceiling) T o w l id left weak v known.deep h eh

-- ---- the table after a call is the table before it
pub called_stays : (lim : Limit) (b : TypeTable) (s : List ℕ) (w : List ℕ) (m : MarksAndLeaders) (j : ℕ) (r : Order) (w₁ l₁ : List ℕ) (y left : ℕ) (weak : Bool) (v : Way)
    → kept_out (Ok r) w₁ l₁ ≡ order_kept lim v left (table_in b s w) m y weak j → btf_of b s w₁ ≡ btf_of b s m.marks.work
unfolding kept_out
called_stays lim b s w m j r w₁ l₁ y left weak v e = go (order_kept lim v left (table_in b s w) m y weak j) (table_kept b s lim v left (table_in b s w) m y weak j) (sym e)
  where
    ok_work : (n n' : MarksAndLeaders) (f f' : Bool) (i i' : ℕ) → told n f i ≡ told n' f' i' → n ≡ n'
    ok_work n n' f f' i i' e = cc

    ok_refused : (c i : ℕ) (n : MarksAndLeaders) (f : Bool) (i' : ℕ) → halted c i ≡ told n f i' → ⊥
    ok_refused c i n f i' e = let k : ◌≡◌ {A = ℕ} 0 1 = cc in omega arith

    go : (x : Told MarksAndLeaders) → Stays (btf_of b s) m.marks.work x → x ≡ told (kept_of r w₁ l₁) r.is_strong r.made → btf_of b s w₁ ≡ btf_of b s m.marks.work
    go (told n f i) (on e) q = ap (λ (y : MarksAndLeaders). btf_of b s y.marks.work) (sym (ok_work n (kept_of r w₁ l₁) f r.is_strong i r.made q)) ∙ e
    go (halted c i) off q = absurd (ok_refused c i (kept_of r w₁ l₁) r.is_strong r.made q)

-- ---- order_new: what the code's node says of the rule's
module _ (lim : Limit) (b : TypeTable) (s : List ℕ) (w l : List ℕ) (o : Order) (id left : ℕ) (weak : Bool) (v : Way) (t : Record) (et : t ≡ record_by_id b s w id) (nd : Code) (en : node_is b s nd ≡ node_of (type_of b s t)) (x : Told MarksAndLeaders) where
  abbrev T : Table
  T = table_in b s w

  abbrev m₀ : MarksAndLeaders
  m₀ = kept_of o w l

  abbrev Goal : Type 0
  Goal = x ≡ fresh_kept lim v T left m₀ id weak o.made

  -- by the rule's clause for a node
  by_node : (c : Code) → nd ≡ c → x ≡ fresh_within (kept_store v) T (λ m' y weak' j'. order_kept lim (way_for (is_around (node_is b s c)) v id) left T m' y weak' j') m₀ id weak (node_is b s c) o.made → Goal
  unfolding fresh_kept
  by_node c e h = h ∙ ap (λ n. fresh_within (kept_store v) T (λ m' y weak' j'. order_kept lim (way_for (is_around n) v id) left T m' y weak' j') m₀ id weak n o.made) (ap (node_is b s) (sym e) ∙ sym (node_is_lem b s w id t et nd en))

  pub new_ignored : nd ≡ code.Ignored → (r : Order) → x ≡ kept_out (Ok r) w l → r ≡ strong_of o false → Goal
  unfolding node_is fresh_within
  new_ignored e r ex er = by_node code.Ignored e (ex ∙ flagged o w l false r er)

  pub new_plain : nd ≡ code.Plain → x ≡ told (finish (kept_store v) false id m₀) false o.made → Goal
  unfolding node_is fresh_within
  new_plain e ex = by_node code.Plain e ex

  pub new_listed : (nd ≡ code.Enum) ⊎ (nd ≡ code.Fwd) → (nm : Bool) → nm ≡ is_named (type_of b s t) → x ≡ told (finish (kept_store v) nm id m₀) true o.made → Goal
  unfolding node_is fresh_within
  new_listed e nm enm ex = go e
    where
      named : x ≡ told (finish (kept_store v) (T.named id) id m₀) true o.made
      named = ex ∙ ap (λ (y : Bool). told (finish (kept_store v) y id m₀) true o.made) (enm ∙ sym (named_at b s w id t et))

      go : (nd ≡ code.Enum) ⊎ (nd ≡ code.Fwd) → Goal
      go (inl k) = by_node code.Enum k named
      go (inr k) = by_node code.Fwd k named

  pub new_array : (y : ℕ) → nd ≡ code.Array y → (f : Bool) → f ≡ (not b.strong_arrays && weak) → x ≡ order_kept lim v left T m₀ y f o.made → Goal
  unfolding node_is fresh_within btf_of
  new_array y e f ef ex = by_node (code.Array y) e (ex ∙ ap (λ (q : Bool). order_kept lim v left T m₀ y q o.made) ef)

  pub new_through : (y : ℕ) → nd ≡ code.Through y → x ≡ order_kept lim v left T m₀ y weak o.made → Goal
  unfolding node_is fresh_within
  new_through y e ex = by_node (code.Through y) e ex

  pub new_ptr : (y : ℕ) → nd ≡ code.Ptr y → x ≡ then_bind (order_kept lim v left T m₀ y true o.made) (λ s' b' j. told (finish (kept_store v) false id s') b' j) → Goal
  unfolding node_is fresh_within
  new_ptr y e ex = by_node (code.Ptr y) e ex

  pub new_typedef : (y : ℕ) → nd ≡ code.Typedef y → (u : Way) → u ≡ inside_of v id → x ≡ then_bind (order_kept lim u left T m₀ y weak o.made) (λ m' f j. alias_kept v m' id weak f j) → Goal
  unfolding node_is fresh_within alias_kept kept_store
  new_typedef y e u eu ex = by_node (code.Typedef y) e (ex ∙ ap (λ (q : Way). then_bind (order_kept lim q left T m₀ y weak o.made) (λ m' f' j. alias_kept v m' id weak f' j)) eu)

  pub new_composite : (es : Entries) → nd ≡ code.Composite es → x ≡ enter_kept lim v T left m₀ id weak (is_named (type_of b s t)) (member_ids b s (entries_of t)) o.made → Goal
  unfolding node_is fresh_kept fresh_within enter_kept way_kept
  new_composite es e ex = ex
      ∙ ap (λ (y : Bool). enter_within (kept_store v) (weak && y) (λ s' y' j'. order_kept lim (inside_of v id) left T s' y' false j') m₀ id y (member_ids b s (entries_of t)) o.made) (sym (named_at b s w id t et))
      ∙ ap (λ n. fresh_within (kept_store v) T (λ m' y weak' j'. order_kept lim (way_for (is_around n) v id) left T m' y weak' j') m₀ id weak n o.made) (comp_is b s t nd en es e ∙ sym (node_at b s w id t et))

  pub new_proto : (y : ℕ) (es : Entries) → nd ≡ code.Proto y es → x ≡ then_bind (order_kept lim v left T m₀ y weak o.made) (λ m f j. each_within (way_kept lim v T left weak) (param_ids b s es) m f j) → Goal
  unfolding node_is fresh_within each_within way_kept
  new_proto y es e ex = by_node (code.Proto y es) e ex

  -- the parameters, after the result
  pub proto_params : (y : ℕ) (es : Entries) → nd ≡ code.Proto y es → (r : Order) (w₁ l₁ : List ℕ) → kept_out (Ok r) w₁ l₁ ≡ order_kept lim v left T m₀ y weak o.made
      → x ≡ each_within (way_kept lim v (table_in b s w₁) left weak) (param_ids b s es) (kept_of r w₁ l₁) r.is_strong r.made → Goal
  proto_params y es e r w₁ l₁ er ex = new_proto y es e
      (follows r w₁ l₁ (λ m f j. each_within (way_kept lim v T left weak) (param_ids b s es) m f j) (order_kept lim v left T m₀ y weak o.made) er x
      (ex ∙ ap (λ B. each_within (way_kept lim v (table_of B) left weak) (param_ids b s es) (kept_of r w₁ l₁) r.is_strong r.made) (called_stays lim b s w m₀ o.made r w₁ l₁ y left weak v er)))

-- ---- order_composite
each_flag : (f : MarksAndLeaders → ℕ → ℕ → Told MarksAndLeaders) (k : MarksAndLeaders → ℕ → Told MarksAndLeaders) (ys : List ℕ) (m : MarksAndLeaders) (p q : Bool) (j : ℕ) → then_bind (each_within f ys m p j) (λ s' _ i. k s' i) ≡ then_bind (each_within f ys m q j) (λ s' _ i. k s' i)
unfolding each_within then_bind
each_flag f k [] m p q j = refl
each_flag f k (y ∷ ys) m p q j = go (f m y j) (λ s' c i. each_flag f k ys s' (p || c) (q || c) i)
  where
    go : (x : Told MarksAndLeaders) → ((s' : MarksAndLeaders) (c : Bool) (i : ℕ) → then_bind (each_within f ys s' (p || c) i) (λ s'' _ i'. k s'' i') ≡ then_bind (each_within f ys s' (q || c) i) (λ s'' _ i'. k s'' i'))
        → then_bind (then_bind x (λ s' c i. each_within f ys s' (p || c) i)) (λ s' _ i. k s' i) ≡ then_bind (then_bind x (λ s' c i. each_within f ys s' (q || c) i)) (λ s' _ i. k s' i)
    go (told s' c i) h = h s' c i
    go (halted c i) h = refl

-- by what the code read of the record
pub composite_named : (lim : Limit) (b : TypeTable) (s : List ℕ) (T : Table) (id left : ℕ) (weak : Bool) (v : Way) (nm nm' : Bool) → nm ≡ nm' → (es es' : Entries) → es ≡ es' → (m : MarksAndLeaders) (j : ℕ) (x : Told MarksAndLeaders)
    → x ≡ enter_kept lim v T left m id weak nm (member_ids b s es) j → x ≡ enter_kept lim v T left m id weak nm' (member_ids b s es') j
composite_named lim b s T id left weak v nm nm' en es es' ees m j x ex = ex ∙ (λ i. enter_kept lim v T left m id weak (en i) (member_ids b s (ees i)) j)

module _ (lim : Limit) (b : TypeTable) (s : List ℕ) (w l : List ℕ) (o : Order) (id left : ℕ) (weak nm : Bool) (v : Way) (ms : List ℕ) where
  abbrev Entered : Told MarksAndLeaders → Type 0
  Entered x = x ≡ enter_kept lim v (table_in b s w) left (kept_of o w l) id weak nm ms o.made

  pub composite_passed : (r : Order) → weak && nm ≡ true → r ≡ strong_of o false → Entered (kept_out (Ok r) w l)
  unfolding enter_kept enter_within
  composite_passed r e er = flagged o w l false r er ∙ ap (λ (t : Bool). enter_within (kept_store v) t (way_kept lim (inside_of v id) (table_in b s w) left false) (kept_of o w l) id nm ms o.made) (sym e)

  last : MarksAndLeaders → Bool → ℕ → Told MarksAndLeaders
  last m _ j = told (finish (kept_store v) nm id m) true j

  pub composite_entered : (w₁ : List ℕ) (u : Way) (x : Told MarksAndLeaders) → weak && nm ≡ false → w₁ ≡ put_field w id 1 1 → u ≡ inside_of v id
      → x ≡ then_bind (each_within (way_kept lim u (table_in b s w₁) left false) ms (kept_of o w₁ l) o.is_strong o.made) (λ m _ j. told (finish (kept_store v) nm id m) true j) → Entered x
  unfolding enter_kept enter_within then_bind last
  composite_entered w₁ u x e ew eu ex =
      ex
      ∙ each_flag (way_kept lim u (table_in b s w₁) left false) (λ m' i. told (finish (kept_store v) nm id m') true i) ms (kept_of o w₁ l) o.is_strong false o.made
      ∙ (λ i. then_bind (each_within (way_kept lim (eu i) (table_of ((ap (btf_of b s) ew ∙ table_mark b s w id 1) i)) left false) ms (marked o w l v busy id w₁ ew i) false o.made) last)
      ∙ ap (λ (t : Bool). enter_within (kept_store v) t (way_kept lim (inside_of v id) (table_in b s w) left false) (kept_of o w l) id nm ms o.made) (sym e)

-- ---- order_entries: what is left is the whole
pub record Rest (lim : Limit) (b : TypeTable) (s : List ℕ) (w₀ l₀ : List ℕ) (left : ℕ) (weak : Bool) (v : Way) (id : ℕ → ℕ) (o : Order) (vlen : ℕ) (r : Order) (w l : List ℕ) (k : ℕ) : Type 0 where
  pub whole : each_within (way_kept lim v (table_in b s w₀) left weak) (from id 0 vlen) (kept_of o w₀ l₀) o.is_strong o.made ≡ each_within (way_kept lim v (table_in b s w₀) left weak) (from id k (vlen - k)) (kept_of r w l) r.is_strong r.made
  pub table : btf_of b s w ≡ btf_of b s w₀

module _ (lim : Limit) (b : TypeTable) (s : List ℕ) (w₀ l₀ : List ℕ) (left : ℕ) (weak : Bool) (v : Way) (id : ℕ → ℕ) (o : Order) (vlen : ℕ) where
  abbrev f : MarksAndLeaders → ℕ → ℕ → Told MarksAndLeaders
  f = way_kept lim v (table_in b s w₀) left weak

  module _ (r : Order) (w l : List ℕ) (k : ℕ) (inv : Rest lim b s w₀ l₀ left weak v id o vlen r w l k) where
    module _ (h : k < vlen) (y : ℕ) (ey : y ≡ id k) where
      -- the call, by the table at the start
      called : (x : Told MarksAndLeaders) → x ≡ order_kept lim v left (table_in b s w) (kept_of r w l) y weak r.made → x ≡ f (kept_of r w l) (id k) r.made
      unfolding way_kept
      called x ex = ex ∙ (λ i. order_kept lim v left (table_of (inv.table i)) (kept_of r w l) (ey i) weak r.made)

      after : MarksAndLeaders → Bool → ℕ → Told MarksAndLeaders
      after m g j = each_within f (from id (k + 1) (vlen - (k + 1))) m (r.is_strong || g) j

      next : each_within f (from id 0 vlen) (kept_of o w₀ l₀) o.is_strong o.made ≡ then_bind (f (kept_of r w l) (id k) r.made) after
      unfolding from each_within after
      next = let d : vlen - k ≡ suc (vlen - (k + 1)) = omega arith in inv.whole ∙ ap (λ (n : ℕ). each_within f (from id k n) (kept_of r w l) r.is_strong r.made) d

      pub rest_turn : (p : Order) (w₁ l₁ : List ℕ) → kept_out (Ok p) w₁ l₁ ≡ order_kept lim v left (table_in b s w) (kept_of r w l) y weak r.made
          → (q : Order) → q ≡ strong_of p (r.is_strong || p.is_strong) → Rest lim b s w₀ l₀ left weak v id o vlen q w₁ l₁ (k + 1)
      unfolding kept_out then_bind each_within after from
      rest_turn p w₁ l₁ ep q eq = record {
        whole = next ∙ ap (λ (x : Told MarksAndLeaders). then_bind x after) (sym (called (kept_out (Ok p) w₁ l₁) ep))
            ∙ ap (λ (u : Order). each_within f (from id (k + 1) (vlen - (k + 1))) (kept_of u w₁ l₁) u.is_strong u.made) (sym eq);
        table = called_stays lim b s w (kept_of r w l) r.made p w₁ l₁ y left weak v ep ∙ inv.table;
      }

      pub rest_halt : (g : Halted) (w₁ l₁ w₂ l₂ : List ℕ) → kept_out (Err g) w₁ l₁ ≡ order_kept lim v left (table_in b s w) (kept_of r w l) y weak r.made
          → kept_out (Err g) w₂ l₂ ≡ each_within f (from id 0 vlen) (kept_of o w₀ l₀) o.is_strong o.made
      rest_halt g w₁ l₁ w₂ l₂ eg = ends g w₁ l₁ after (f (kept_of r w l) (id k) r.made) (called (kept_out (Err g) w₁ l₁) eg) w₂ l₂ ∙ sym next

    pub rest_end : vlen ≤ k → kept_out (Ok r) w l ≡ each_within f (from id 0 vlen) (kept_of o w₀ l₀) o.is_strong o.made
    unfolding kept_out from each_within
    rest_end h = let d : vlen - k ≡ 0 = omega arith in sym (inv.whole ∙ ap (λ (n : ℕ). each_within f (from id k n) (kept_of r w l) r.is_strong r.made) d)

module _ (lim : Limit) (b : TypeTable) (s : List ℕ) (w₀ l₀ : List ℕ) (left : ℕ) (weak : Bool) (v : Way) (o : Order) (h : Held) (r : Order) (w l : List ℕ) (k : ℕ) (inv : Rest lim b s w₀ l₀ left weak v (entry_type b s h) o (count_of h) r w l k) where
  abbrev Each : Told MarksAndLeaders → Type 0
  Each x = x ≡ each_within (way_kept lim v (table_in b s w₀) left weak) (entry_ids b s h) (kept_of o w₀ l₀) o.is_strong o.made

  pub entries_end : (n : ℕ) → n ≡ count_of h → n ≤ k → Each (kept_out (Ok r) w l)
  unfolding entry_ids
  entries_end n e g = rest_end lim b s w₀ l₀ left weak v (entry_type b s h) o (count_of h) r w l k inv (omega (arith, e, g))

  pub entries_halt : k < count_of h → (y : ℕ) → y ≡ entry_type b s h k → (g : Halted) (w₁ l₁ w₂ l₂ : List ℕ) → kept_out (Err g) w₁ l₁ ≡ order_kept lim v left (table_in b s w) (kept_of r w l) y weak r.made → Each (kept_out (Err g) w₂ l₂)
  unfolding entry_ids
  entries_halt n y ey g w₁ l₁ w₂ l₂ eg = rest_halt lim b s w₀ l₀ left weak v (entry_type b s h) o (count_of h) r w l k inv n y ey g w₁ l₁ w₂ l₂ eg

pub members_are : (b : TypeTable) (s : List ℕ) (es : Entries) → entry_ids b s (Members es) ≡ member_ids b s es
unfolding entry_ids member_ids
members_are b s es = refl

pub params_are : (b : TypeTable) (s : List ℕ) (es : Entries) → entry_ids b s (Params es) ≡ param_ids b s es
unfolding entry_ids param_ids
params_are b s es = refl

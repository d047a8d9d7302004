-- Laws of a request: ordering, the listed ids, the emptied list; and requests that have nothing to do. Assumes nothing.
use Prim.Native.Nat.{ℕ, suc, ◌+◌, ◌<◌, ◌≤◌}
use mathlib.Core.Path.{◌≡◌, refl, ap, ◌∙◌, sym, subst}
use mathlib.Core.List.{List}
use mathlib.Core.Bool.{Bool, true, false}
use mathlib.Core.Logic.{◌⊎◌, inl, inr}
use native.Mathlib.Omega.{arith}
use lib.Dec.{ltb}
use Rattle.std.specs.Prelude.{Result, Ok, Err}
use Rattle.spec_c_dumper.specs.rules.Order.{Table, Node, ignored, plain, listed, through, ptr, tdef, proto, comp, Mark, new, busy, done, Res, ok, refused, fresh, visit, order}
use Rattle.spec_c_dumper.specs.rules.Machine.{Out, wrote, stuck, Machine, obind, eeach, emit, Sess, Answer, shut, emitted, ordered, ordering, gate, single}
use Rattle.spec_c_dumper.specs.rules.Types.{BtfType, Btf as Rules, node_of, table_of}
use Rattle.spec_type_table.specs.declared.types.TypeTable.{TypeTable}
use Rattle.spec_type_table.specs.declared.types.BtfType.{BtfType as Record}
use Rattle.spec_type_table.specs.Cells.{get_field}
use Rattle.spec_type_table.specs.Records.{kind_of, record_by_id}
use Rattle.spec_type_table.specs.Table.{from, btf_of}
use Rattle.spec_type_table.specs.declared.kind.Kind.{Kind}
use Rattle.spec_type_table.specs.declared.kind.Kind.TheVariants as kinds
use Rattle.spec_type_table.specs.Kinds.{kind_named}
use Rattle.spec_type_table.proofs.KindTypes.{type_as, type_is}
use Rattle.spec_c_dumper.specs.ceiling.Ceiling.{Limit, unbounded, most, Told, halted, calls_made}
use Rattle.spec_c_dumper.proofs.ceiling.Counted.{tell, within, passes}
use Rattle.spec_c_dumper.proofs.ceiling.Plain.{unbounded_is}
use Rattle.c_dumper_dependency_order.specs.declared.order_state.Order.{Order}
use Rattle.c_dumper_dependency_order.specs.declared.order_state.Halted.{Halted}
use Rattle.c_dumper_dependency_order.specs.declared.order_state.Mark.{Mark as CodeMark}
use Rattle.c_dumper_dependency_order.specs.declared.order_state.Mark.TheVariants.{New, Open, Done}
use Rattle.c_dumper_dependency_order.specs.order_state.Work.{Marks, mark_is, mark_of, work_store, table_in}
use Rattle.c_dumper_dependency_order.specs.leaders.Leaders.{MarksAndLeaders, order_kept, kept_of, kept_out, entry_in}
use Rattle.c_dumper_dependency_order.proofs.order_state.Laws.{node_at}
use Rattle.c_dumper_dependency_order.proofs.order_type.Laws as kept
use Rattle.c_dumper_dependency_order.proofs.leaders.Maps.{forget_kept}
use Rattle.spec_session.specs.metered.Metered.{ordered_in, beside_of, dumped_metered, calls_in}
use Rattle.spec_session.specs.emission.Slices.{Slices, marks_in, with_marks, slices_store, emptied, work_machine, is_ignored, is_idle}
use Rattle.spec_c_dumper.specs.rules.Request.{listed_out, dumped}
use Rattle.spec_c_dumper.specs.origins.Causes.{Traced}
use Rattle.spec_c_dumper.proofs.rules.Maps.{rmap, tmap, StoreMap, map_order}
use Rattle.spec_session.proofs.emission.Laws.{slices}
use Rattle.c_dumper_emit.specs.declared.entries.Pen.{Pen}
use Rattle.c_dumper_emit.specs.entries.Traced.{Lent, traced_out, emit_n}
use Rattle.c_dumper_emit.proofs.entries.Laws.{Penned, traced_at, goes, halts, obind_then}
use Rattle.c_dumper_emit.specs.dump_type.Kept.{way_to, Beside, with_leaders, ordered_kept, each_kept, listed_kept, dumped_kept}

-- ---- ordering beside a text: what the store in the work gives, and the text as it was
module _ (t : List ℕ) (at : ℕ) where
  abbrev pub beside : Marks → Slices
  beside k = record { work = k.work; text = t; at = at; len = k.len }

  abbrev pub lifted : Res Marks → Res Slices
  lifted r = rmap beside r

  beside_map : StoreMap work_store slices_store beside
  unfolding slices_store
  beside_map = record { gets = λ k x. refl; marks = λ d x k. refl; pushes = λ x k. refl; lists = λ k. refl }

  pub lift_order : (n : ℕ) (T : Table) (k : Marks) (x : ℕ) (weak : Bool) → order slices_store n T (beside k) x weak ≡ lifted (order work_store n T k x weak)
  lift_order n T k x weak = map_order work_store slices_store beside beside_map n T k x weak

-- ---- dump_type
abbrev start : ℕ → Order
start made = record { made = made; len = 0; is_strong = false }

abbrev came : Result Order Halted → ℕ
came (Ok o) = o.made
came (Err h) = h.made

-- the calls made: what ordering says of the work alone
module _ (b : TypeTable) (s : List ℕ) (lim : Limit) (w : List ℕ) (id turn made : ℕ) (r : Result Order Halted) (w₁ l₁ l₀ : List ℕ)
    (e : kept_out r w₁ l₁ ≡ order_kept lim (way_to id turn) 512 (table_in b s w) (kept_of (start made) w l₀) id false made) where
  abbrev marks_of : MarksAndLeaders → Marks
  marks_of k = k.marks

  counted : (q : Result Order Halted) → calls_made (tmap marks_of (kept_out q w₁ l₁)) ≡ came q
  unfolding calls_made kept_out
  counted (Ok o) = refl
  counted (Err h) = refl

  pub made_is : came r ≡ calls_made (ordered_in (btf_of b s w) lim (record { work = w; len = 0 }) id made)
  made_is = sym (counted r) ∙ ap calls_made (ap (tmap marks_of) e ∙ sym (forget_kept lim (way_to id turn) 512 (table_in b s w) (kept_of (start made) w l₀) id false made))

module _ (b : TypeTable) (s : List ℕ) (lent : Lent) (lim : Limit) (p : Pen) (tx w li : List ℕ) (id turn made : ℕ) (r₁ : Result Order Halted) (w₁ l₁ l₀ : List ℕ)
    (e : kept_out r₁ w₁ l₁ ≡ order_kept lim (way_to id turn) 512 (table_in b s w) (kept_of (start made) w l₀) id false made) where
  abbrev X : Rules
  X = btf_of b s w

  order_is : kept_out r₁ w₁ l₁ ≡ ordered_kept X lim (slices 0 p.at tx w) l₀ id turn made
  unfolding ordered_kept
  order_is = e

  abbrev dumps : Beside → Out Beside (Unit {0})
  dumps m = dumped_kept b X lent lim m id turn made

  abbrev begun : Beside
  begun = record { traced = traced_at 0 p tx w li; leaders = l₀ }

  dumped_is : dumps begun ≡ listed_kept b X lent id turn (traced_at 0 p tx w li) (kept_out r₁ w₁ l₁)
  unfolding dumped_kept
  dumped_is = ap (listed_kept b X lent id turn (traced_at 0 p tx w li)) (sym order_is)

  run : (k : Beside → Out Beside (Unit {0})) → obind (with_leaders l₀ (traced_out 0 (Ok p) tx w li)) k ≡ k begun
  unfolding obind with_leaders
  run k = ap (λ (q : Out (Traced Slices) (Unit {0})). obind (with_leaders l₀ q) k) (goes 0 p tx w li)

  pub dump_refused : (h : Halted) → r₁ ≡ Err h → with_leaders l₁ (traced_out 0 (Err h.refusal) tx w₁ li) ≡ obind (with_leaders l₀ (traced_out 0 (Ok p) tx w li)) dumps
  unfolding kept_out listed_kept with_leaders
  dump_refused h eh = ap (with_leaders l₁) (halts 0 h.refusal tx w₁ li) ∙ sym (run dumps ∙ dumped_is ∙ ap (λ (q : Result Order Halted). listed_kept b X lent id turn (traced_at 0 p tx w li) (kept_out q w₁ l₁)) eh)

  module _ (o : Order) (z : r₁ ≡ Ok o) where
    -- ordering left the table
    table_is : btf_of b s w₁ ≡ X
    table_is = kept.called_stays lim b s w (kept_of (start made) w l₀) made o w₁ l₁ id 512 false (way_to id turn) (ap (λ (q : Result Order Halted). kept_out q w₁ l₁) (sym z) ∙ e)

    last : Traced Slices → Out (Traced Slices) (Unit {0})
    last m = wrote (record { mach = (work_machine b X).start 0 m.mach; entries = m.entries })

    -- the list is empty again
    cleared_slices : (n : ℕ) (r : Penned) (t₂ w₂ l₂ w₃ : List ℕ) → w₃ ≡ emptied n w₂ → traced_out 0 r t₂ w₃ l₂ ≡ obind (traced_out n r t₂ w₂ l₂) last
    unfolding obind work_machine last
    cleared_slices n (Ok q) t₂ w₂ l₂ w₃ ew = goes 0 q t₂ w₃ l₂ ∙ ap (λ (u : List ℕ). wrote (traced_at 0 q t₂ u l₂)) ew ∙ sym (ap (λ (u : Out (Traced Slices) (Unit {0})). obind u last) (goes n q t₂ w₂ l₂))
    cleared_slices n (Err c) t₂ w₂ l₂ w₃ ew = halts 0 c t₂ w₃ l₂ ∙ sym (ap (λ (u : Out (Traced Slices) (Unit {0})). obind u last) (halts n c t₂ w₂ l₂))

    pub dump_listed : (r : Penned) (t₂ w₂ l₂ : List ℕ) → traced_out o.len r t₂ w₂ l₂ ≡ obind (traced_out o.len (Ok p) tx w₁ li) (λ m. eeach (emit_n b (btf_of b s w₁) lent (entry_in id turn l₁) 512 0) (slices_store.list m.mach) m)
        → (w₃ : List ℕ) → w₃ ≡ emptied o.len w₂ → with_leaders l₁ (traced_out 0 r t₂ w₃ l₂) ≡ obind (with_leaders l₀ (traced_out 0 (Ok p) tx w li)) dumps
    unfolding obind kept_out listed_kept each_kept last
    dump_listed r t₂ w₂ l₂ e₂ w₃ e₃ =
        ap (with_leaders l₁) (cleared_slices o.len r t₂ w₂ l₂ w₃ e₃
        ∙ ap (λ (q : Out (Traced Slices) (Unit {0})). obind q last) (e₂ ∙ ap (λ (Q : Rules). obind (traced_out o.len (Ok p) tx w₁ li) (λ m. eeach (emit_n b Q lent (entry_in id turn l₁) 512 0) (slices_store.list m.mach) m)) table_is)
        ∙ obind_then (traced_out o.len (Ok p) tx w₁ li) each last)
        ∙ ap (λ (q : Out (Traced Slices) (Unit {0})). with_leaders l₁ (obind q all)) (goes o.len p tx w₁ li)
        ∙ sym (run dumps ∙ dumped_is ∙ ap (λ (q : Result Order Halted). listed_kept b X lent id turn (traced_at 0 p tx w li) (kept_out q w₁ l₁)) z)
      where
        each : Traced Slices → Out (Traced Slices) (Unit {0})
        each m = eeach (emit_n b X lent (entry_in id turn l₁) 512 0) (slices_store.list m.mach) m

        all : Traced Slices → Out (Traced Slices) (Unit {0})
        all m = obind (each m) last

-- ---- without a list: the plain request, and under a ceiling the plain one or 22
beside_tell : (m : Slices) (r : Res Marks) (j : ℕ) → beside_of m (tell r j) ≡ rmap (with_marks m) r
unfolding beside_of tell
beside_tell m (ok k f) j = refl
beside_tell m (refused c) j = refl

tell_count : (r : Res Marks) (j : ℕ) → calls_made (tell r j) ≡ j
unfolding calls_made tell
tell_count (ok m f) j = refl
tell_count (refused c) j = refl

module _ (b : TypeTable) (B : Rules) (m : Slices) (id made : ℕ) where
  abbrev plain_rule : Res Marks
  plain_rule = order work_store 512 (table_of B) (marks_in m) id false

  tell_is : (t : Told Marks) (j : ℕ) → t ≡ tell plain_rule j → listed_out (work_machine b B) (table_of B) tt (beside_of m t) ≡ dumped (work_machine b B) (table_of B) m id
  unfolding dumped work_machine
  tell_is t j e = ap (listed_out (work_machine b B) (table_of B) tt) (ap (beside_of m) e ∙ beside_tell m plain_rule j ∙ sym (lift_order m.text m.at 512 (table_of B) (marks_in m) id false))

  -- nothing is counted
  pub plain_is : dumped_metered b B unbounded m id made ≡ dumped (work_machine b B) (table_of B) m id
  unfolding dumped_metered
  plain_is = tell_is _ made (unbounded_is work_store 512 (table_of B) (marks_in m) id false made)

pub plain_made : (B : Rules) (k : Marks) (id made : ℕ) → calls_made (ordered_in B unbounded k id made) ≡ made
plain_made B k id made = ap calls_made (unbounded_is work_store 512 (table_of B) k id false made) ∙ tell_count (order work_store 512 (table_of B) k id false) made

module _ (b : TypeTable) (s : List ℕ) (m : Slices) (z : m.len ≡ 0) (id c made : ℕ) where
  abbrev opens : ℕ
  opens = calls_in b s m.work id

  abbrev first : Marks
  first = record { work = m.work; len = 0 }

  begins : marks_in m ≡ first
  begins = λ i. record { work = m.work; len = z i }

  rule_fits : made + opens ≤ c → ordered_in (btf_of b s m.work) (most c) first id made ≡ tell (order work_store 512 (table_in b s m.work) first id false) (made + opens)
  unfolding calls_in
  rule_fits l = within c work_store 512 (table_in b s m.work) first id false made l

  rule_over : made ≤ c → c < made + opens → ordered_in (btf_of b s m.work) (most c) first id made ≡ halted 22 c
  unfolding calls_in
  rule_over k l = passes c work_store 512 (table_in b s m.work) first id false made k l

  pub fits_made : made + opens ≤ c → calls_made (ordered_in (btf_of b s m.work) (most c) first id made) ≡ made + opens
  fits_made l = ap calls_made (rule_fits l) ∙ tell_count (order work_store 512 (table_in b s m.work) first id false) (made + opens)

  pub over_made : made ≤ c → c < made + opens → calls_made (ordered_in (btf_of b s m.work) (most c) first id made) ≡ c
  unfolding calls_made
  over_made k l = ap calls_made (rule_over k l)

  pub fits_is : made + opens ≤ c → dumped_metered b (btf_of b s m.work) (most c) m id made ≡ dumped (work_machine b (btf_of b s m.work)) (table_in b s m.work) m id
  unfolding dumped_metered
  fits_is l = tell_is b (btf_of b s m.work) m id made (ordered_in (btf_of b s m.work) (most c) (marks_in m) id made) (made + opens)
      (subst (λ (k : Marks). ordered_in (btf_of b s m.work) (most c) k id made ≡ tell (order work_store 512 (table_in b s m.work) k id false) (made + opens)) (sym begins) (rule_fits l))

  pub over_is : made ≤ c → c < made + opens → dumped_metered b (btf_of b s m.work) (most c) m id made ≡ stuck tt 22
  unfolding dumped_metered beside_of listed_out
  over_is k l = ap (λ (t : Told Marks). listed_out (work_machine b (btf_of b s m.work)) (table_in b s m.work) tt (beside_of m t)) (ap (λ (n : Marks). ordered_in (btf_of b s m.work) (most c) n id made) begins ∙ rule_over k l)

-- ---- is_idle
module _ (b : TypeTable) (s : List ℕ) (t : Record) where
  ignores : (y : Kind) → (y ≡ kinds.Func) ⊎ ((y ≡ kinds.Var) ⊎ ((y ≡ kinds.Datasec) ⊎ (y ≡ kinds.DeclTag))) → true ≡ is_ignored (node_of (type_as b s t y))
  unfolding is_ignored
  ignores y (inl e) = rw e
  ignores y (inr (inl e)) = rw e
  ignores y (inr (inr (inl e))) = rw e
  ignores y (inr (inr (inr e))) = rw e

  heeds : (y : Kind) → (y ≡ kinds.Func → ⊥) → (y ≡ kinds.Var → ⊥) → (y ≡ kinds.Datasec → ⊥) → (y ≡ kinds.DeclTag → ⊥) → false ≡ is_ignored (node_of (type_as b s t y))
  unfolding is_ignored
  heeds kinds.Void n₁ n₂ n₃ n₄ = refl
  heeds kinds.Int n₁ n₂ n₃ n₄ = refl
  heeds kinds.Ptr n₁ n₂ n₃ n₄ = refl
  heeds kinds.Array n₁ n₂ n₃ n₄ = refl
  heeds kinds.Struct n₁ n₂ n₃ n₄ = refl
  heeds kinds.Union n₁ n₂ n₃ n₄ = refl
  heeds kinds.Enum n₁ n₂ n₃ n₄ = refl
  heeds kinds.Fwd n₁ n₂ n₃ n₄ = refl
  heeds kinds.Typedef n₁ n₂ n₃ n₄ = refl
  heeds kinds.Volatile n₁ n₂ n₃ n₄ = refl
  heeds kinds.Const n₁ n₂ n₃ n₄ = refl
  heeds kinds.Restrict n₁ n₂ n₃ n₄ = refl
  heeds kinds.Func n₁ n₂ n₃ n₄ = absurd (n₁ refl)
  heeds kinds.FuncProto n₁ n₂ n₃ n₄ = refl
  heeds kinds.Var n₁ n₂ n₃ n₄ = absurd (n₂ refl)
  heeds kinds.Datasec n₁ n₂ n₃ n₄ = absurd (n₃ refl)
  heeds kinds.Float n₁ n₂ n₃ n₄ = refl
  heeds kinds.DeclTag n₁ n₂ n₃ n₄ = absurd (n₄ refl)
  heeds kinds.TypeTag n₁ n₂ n₃ n₄ = refl
  heeds kinds.Enum64 n₁ n₂ n₃ n₄ = refl
  heeds kinds.Unknown n₁ n₂ n₃ n₄ = refl

module _ (b : TypeTable) (s : List ℕ) (w : List ℕ) (id : ℕ) (m : CodeMark) (em : mark_is m ≡ mark_of (get_field w id 1)) where
  told_by : (d : CodeMark) → m ≡ d → is_idle (mark_is d) ((table_in b s w).node id) ≡ is_idle (mark_of (get_field w id 1)) ((table_in b s w).node id)
  told_by d e = ap (λ (x : Mark). is_idle x ((table_in b s w).node id)) (ap mark_is (sym e) ∙ em)

  pub idle_done : m ≡ Done → true ≡ is_idle (mark_of (get_field w id 1)) ((table_in b s w).node id)
  unfolding is_idle
  idle_done e = told_by Done e

  pub idle_busy : m ≡ Open → false ≡ is_idle (mark_of (get_field w id 1)) ((table_in b s w).node id)
  unfolding is_idle
  idle_busy e = told_by Open e

  module _ (n : m ≡ New) (t : Record) (et : t ≡ record_by_id b s w id) (k : Kind) (ek : k ≡ kind_named (kind_of t.info)) where
    kind_is : is_ignored (node_of (type_as b s t k)) ≡ is_idle (mark_of (get_field w id 1)) ((table_in b s w).node id)
    unfolding is_idle
    kind_is = ap (λ (y : BtfType). is_ignored (node_of y)) (sym (type_is b s t k ek k refl)) ∙ ap is_ignored (sym (node_at b s w id t et)) ∙ told_by New n

    pub idle_yes : (k ≡ kinds.Func) ⊎ ((k ≡ kinds.Var) ⊎ ((k ≡ kinds.Datasec) ⊎ (k ≡ kinds.DeclTag))) → true ≡ is_idle (mark_of (get_field w id 1)) ((table_in b s w).node id)
    idle_yes g = ignores b s t k g ∙ kind_is

    pub idle_no : (k ≡ kinds.Func → ⊥) → (k ≡ kinds.Var → ⊥) → (k ≡ kinds.Datasec → ⊥) → (k ≡ kinds.DeclTag → ⊥) → false ≡ is_idle (mark_of (get_field w id 1)) ((table_in b s w).node id)
    idle_no n₁ n₂ n₃ n₄ = heeds b s t k n₁ n₂ n₃ n₄ ∙ kind_is

-- A request for an idle id leaves the text and the work as they were.
module _ (b : TypeTable) (B : Rules) (at : ℕ) (tx w : List ℕ) (id : ℕ) where
  quiet : (f : Bool) → listed_out (work_machine b B) (table_of B) tt (ok (slices 0 at tx w) f) ≡ wrote (slices 0 at tx w)
  unfolding listed_out work_machine slices_store work_store from eeach obind emptied
  quiet f = refl

  idle_visit : (n : ℕ) (d : Mark) → is_idle d ((table_of B).node id) ≡ true
      → listed_out (work_machine b B) (table_of B) tt (visit slices_store (table_of B) (λ s' y f. order slices_store n (table_of B) s' y f) (slices 0 at tx w) id false d) ≡ wrote (slices 0 at tx w)
  unfolding visit is_idle fresh is_ignored
  idle_visit n new e = go ((table_of B).node id) e
    where
      yes_no : false ≡ true → ⊥
      yes_no q = let z : ◌≡◌ {A = ℕ} 0 1 = cc in omega arith

      go : (nd : Node) → is_ignored nd ≡ true → listed_out (work_machine b B) (table_of B) tt (fresh slices_store (table_of B) (λ s' y f. order slices_store n (table_of B) s' y f) (slices 0 at tx w) id false nd) ≡ wrote (slices 0 at tx w)
      go ignored q = quiet false
      go plain q = absurd (yes_no q)
      go (listed f) q = absurd (yes_no q)
      go (through a t) q = absurd (yes_no q)
      go (ptr t) q = absurd (yes_no q)
      go (tdef t) q = absurd (yes_no q)
      go (proto ts) q = absurd (yes_no q)
      go (comp ms) q = absurd (yes_no q)
  idle_visit n busy e = absurd (let z : ◌≡◌ {A = ℕ} 0 1 = cc in omega arith)
  idle_visit n done e = quiet true

  idle_order : (n : ℕ) → is_idle (mark_of (get_field w id 1)) ((table_of B).node id) ≡ true → listed_out (work_machine b B) (table_of B) tt (order slices_store (suc n) (table_of B) (slices 0 at tx w) id false) ≡ wrote (slices 0 at tx w)
  unfolding order slices_store work_store
  idle_order n e = idle_visit n (mark_of (get_field w id 1)) e

  pub idle_request : is_idle (mark_of (get_field w id 1)) ((table_of B).node id) ≡ true → dumped (work_machine b B) (table_of B) (slices 0 at tx w) id ≡ wrote (slices 0 at tx w)
  unfolding dumped work_machine
  idle_request e = idle_order 511 e

-- ---- a request of the theory's session (`single` of the rules): its machine, with the list emptied, is what `dumped` leaves, or its number
-- is the refusal
module _ {M H : Type 0} (X : Machine M H) (T : Table) (S : Sess M) (x : ℕ) where
  pub ordered_out : (h : H) (r : Res M) → ((listed_out X T h r ≡ wrote (X.start 0 (ordered X T S x r).sess.mach)) × ((ordered X T S x r).number ≡ 0)) ⊎ ((m : H) × (listed_out X T h r ≡ stuck m (ordered X T S x r).number))
  unfolding listed_out ordered shut obind emitted
  ordered_out h (ok s f) = go (eeach (λ m y. emit X T 512 m y 0) (X.store.list s) s)
    where
      go : (o : Out M H) → ((obind o (λ m. wrote (X.start 0 m)) ≡ wrote (X.start 0 (emitted X T S x o).sess.mach)) × ((emitted X T S x o).number ≡ 0)) ⊎ ((m : H) × (obind o (λ m. wrote (X.start 0 m)) ≡ stuck m (emitted X T S x o).number))
      go (wrote m) = inl (refl, refl)
      go (stuck m c) = inr (m, refl)
  ordered_out h (refused c) = inr (h, refl)

  pub single_out : (room : ℕ) → S.is_open ≡ true → ltb x T.count ≡ true
      → ((dumped X T (X.start room S.mach) x ≡ wrote (X.start 0 (single X T room S x).sess.mach)) × ((single X T room S x).number ≡ 0)) ⊎ ((m : H) × (dumped X T (X.start room S.mach) x ≡ stuck m (single X T room S x).number))
  unfolding dumped single gate
  single_out room e l =
      subst (λ (a : Answer M). ((dumped X T (X.start room S.mach) x ≡ wrote (X.start 0 a.sess.mach)) × (a.number ≡ 0)) ⊎ ((m : H) × (dumped X T (X.start room S.mach) x ≡ stuck m a.number)))
      (sym (ap (λ (f : Bool). gate X T room S x f (ltb x T.count)) e ∙ ap (gate X T room S x true) l))
      (ordered_out (X.held (X.start room S.mach)) (ordering X T room S x))

-- What emission with entries leaves alone: whatever reads neither emission's marks and flags nor the names. Assumes nothing.
use Prim.Native.Nat.{ℕ, zero, suc, ◌+◌, ◌-◌, ◌*◌, ◌<◌}
use mathlib.Core.Path.{◌≡◌, refl, ◌∙◌, sym, subst}
use mathlib.Core.List.{List, [], ◌∷◌, ◌++◌}
use mathlib.Core.Bool.{Bool, true, false, not, ◌&&◌, ◌||◌}
use mathlib.Core.Logic.{⊎_elim, ◌≢◌}
use native.Mathlib.Omega.{arith}
use lib.Dec.{eqb, ltb}
use lib.ListN.{length}
use Rattle.std.proofs.lemmas.Bool.{cases_lt}
use Rattle.std.specs.Prelude.{Ok}
use Rattle.spec_bytes.specs.text.Placed.{Out as TextOut, done as lies, stopped, put_text}
use Rattle.spec_c_dumper.specs.rules.Order.{Node, ignored, plain, listed, through, ptr, tdef, proto, comp, Mark, new, busy, done}
use Rattle.spec_c_dumper.specs.rules.Machine.{Out, wrote, stuck, Machine, is_zero, pick, obind, eeach, once, mention, again, close, leaf, within, begin, allowed, look}
use Rattle.spec_c_dumper.specs.rules.Types.{Name, Btf as Rules, table_of}
use Rattle.spec_c_dumper.specs.rules.Names.{Space, Resolved}
use Rattle.spec_c_dumper.specs.rules.Writer.{said_text, said_names, Writer}
use Rattle.spec_c_dumper.specs.rules.Place.{with_names, none_held}
use Rattle.spec_c_dumper.specs.alignment_once.Writers.{definition_once, forward_once}
use Rattle.btf_layout.specs.asked.Asked.{work_asks}
use Rattle.spec_c_dumper.proofs.rules.Keeps.{Keeps}
use Rattle.btf_layout.proofs.refusals.InWork.{definition_keeps, forward_keeps}
use Rattle.spec_type_table.specs.declared.types.TypeTable.{TypeTable}
use Rattle.spec_type_table.specs.Cells.{get_field, put_field, class_p, count_p, count_raised}
use Rattle.spec_type_table.specs.Numbers.{number_at}
use Rattle.spec_type_table.specs.Table.{btf_of, work_naming, type_version_in, value_version_in, enumerator_of}
use Rattle.spec_type_table.proofs.Laws.{place_type, place_enum}
use Rattle.spec_type_table.proofs.Frame.{field_other, table_field, table_type_version, table_value_version, counted_other}
use Rattle.c_dumper_dependency_order.specs.order_state.Work.{code}
use Rattle.spec_session.proofs.emission.Laws.{line_is}
use Rattle.spec_session.specs.emission.Slices.{Slices, slices_of, line_in, work_machine}
use Rattle.spec_c_dumper.specs.origins.Causes.{Entry, entry, Traced, with_entries, up_to, line, cause_at, shows_in}
use Rattle.spec_session.proofs.emission.Frame.{table_emark, places}
use Rattle.c_dumper_emit.specs.entries.Traced.{Lent, mach_n, emit_n}

module _ {X : Type 0} (P : List ℕ → X) where
  pub data Stays (w : List ℕ) : Out (Traced Slices) (Unit {0}) → Type 0 where
    on : {m : Traced Slices} → P m.mach.work ≡ P w → Stays w (wrote m)
    off : {h : Unit {0}} {c : ℕ} → Stays w (stuck h c)

  pub stays_from : (w w' : List ℕ) (o : Out (Traced Slices) (Unit {0})) → P w' ≡ P w → Stays w' o → Stays w o
  stays_from w w' (wrote m) e (on f) = on (f ∙ e)
  stays_from w w' (stuck h c) e off = off

  pub stays_then : (w : List ℕ) (o : Out (Traced Slices) (Unit {0})) (k : Traced Slices → Out (Traced Slices) (Unit {0})) → Stays w o → ((m : Traced Slices) → Stays m.mach.work (k m)) → Stays w (obind o k)
  unfolding obind
  stays_then w (wrote m) k (on e) h = stays_from w m.mach.work (k m) e (h m)
  stays_then w (stuck m c) k off h = off

  module _ (b : TypeTable) (marks : (w : List ℕ) (x v : ℕ) → P (put_field w x 13 v) ≡ P w) (flags : (w : List ℕ) (x v : ℕ) → P (put_field w x 3 v) ≡ P w)
      (count : (w : List ℕ) (v : ℕ) → P (put_field w 0 2 v) ≡ P w) (aligns : (w : List ℕ) (x v : ℕ) → P (put_field w x 15 v) ≡ P w)
      (types : (space : Space) (id : ℕ) (name : Name) (w : List ℕ) → P ((work_naming b).type_version space id name w).names ≡ P w)
      (values : (id i : ℕ) (name : Name) (w : List ℕ) → P ((work_naming b).value_version id i name w).names ≡ P w) (B : Rules) (lent : Lent) (why : ℕ → Entry) where
    stays_said : (v : Writer (List ℕ)) → Keeps P v → (es : List Entry) (m : Slices) → Stays m.work (with_entries es (line_in v m))
    unfolding slices_of with_names with_entries
    stays_said v h es m = subst (λ (o : Out Slices (Unit {0})). Stays m.work (with_entries es o)) (sym (line_is v m)) (inner (said_names (v m.work)) (h m.work).0 (put_text m.text (Ok m.at) (said_text (v m.work))))
      where
        inner : (u : List ℕ) → P u ≡ P m.work → (o : TextOut) → Stays m.work (with_entries es (slices_of m.len (with_names none_held u o)))
        inner u e (lies t at) = on e
        inner u e (stopped c) = off

    stays_line : (shown : Bool) (e : Entry) (v : Writer (List ℕ)) → Keeps P v → (m : Traced Slices) → Stays m.mach.work (line (λ k. tt) (up_to lent.room) shown e (λ k. line_in v k) m)
    unfolding line
    stays_line false e v h m = stays_said v h m.entries m.mach
    stays_line true e v h m = go (ltb (length m.entries) lent.room)
      where
        go : (t : Bool) → Stays m.mach.work (elim t as (λ z. Out (Traced Slices) (Unit {0})) [ true ↦ with_entries (m.entries ++ (e ∷ [])) (line_in v m.mach) | false ↦ stuck tt 17 ])
        go true = stays_said v h (m.entries ++ (e ∷ [])) m.mach
        go false = off

    abbrev N : ℕ → Machine (Traced Slices) (Unit {0})
    N cont = mach_n b B lent why cont

    stays_emark : (cont : ℕ) (k : Mark) (x : ℕ) (m : Traced Slices) → P ((N cont).emark k x m).mach.work ≡ P m.mach.work
    unfolding work_machine
    stays_emark cont k x m = marks m.mach.work x (code k)

    stays_flag : (cont x : ℕ) (m : Traced Slices) → P ((N cont).forwarded x m).mach.work ≡ P m.mach.work
    unfolding work_machine
    stays_flag cont x m = flags m.mach.work x 1

    stays_fwd : (cont : ℕ) (m : Traced Slices) (x : ℕ) → Stays m.mach.work ((N cont).fwd_line m x)
    unfolding work_machine
    stays_fwd cont m x = stays_line (lent.lists && shows_in B x) (entry x 2 cont) (forward_once (work_asks b.types B) (work_naming b) B x (B.type_by_id x)) (forward_keeps P count aligns b B types values x (B.type_by_id x)) m

    stays_alias : (cont : ℕ) (m : Traced Slices) (x : ℕ) → Stays m.mach.work ((N cont).alias_line m x)
    unfolding work_machine
    stays_alias cont m x = stays_line (lent.lists && shows_in B x) (cause_at 3 (why x) x cont) (forward_once (work_asks b.types B) (work_naming b) B x (B.type_by_id x)) (forward_keeps P count aligns b B types values x (B.type_by_id x)) m

    stays_leaf_line : (cont : ℕ) (m : Traced Slices) (x : ℕ) → Stays m.mach.work ((N cont).leaf_line m x)
    unfolding work_machine
    stays_leaf_line cont m x = stays_line (lent.lists && true) (cause_at 2 (why x) x cont) (definition_once (work_asks b.types B) (work_naming b) B x (B.type_by_id x)) (definition_keeps P count aligns b B types values x (B.type_by_id x)) m

    stays_body : (cont : ℕ) (m : Traced Slices) (x : ℕ) → Stays m.mach.work ((N cont).body m x)
    unfolding work_machine
    stays_body cont m x = stays_line (lent.lists && true) (why x) (definition_once (work_asks b.types B) (work_naming b) B x (B.type_by_id x)) (definition_keeps P count aligns b B types values x (B.type_by_id x)) m

    stays_eeach : (f : Traced Slices → ℕ → Out (Traced Slices) (Unit {0})) → ((m : Traced Slices) (y : ℕ) → Stays m.mach.work (f m y)) → (ys : List ℕ) (m : Traced Slices) → Stays m.mach.work (eeach f ys m)
    unfolding eeach
    stays_eeach f h [] m = on refl
    stays_eeach f h (y ∷ ys) m = stays_then m.mach.work (f m y) (eeach f ys) (h m y) (λ m'. stays_eeach f h ys m')

    stays_once : (cont : ℕ) (f : Traced Slices → ℕ → Out (Traced Slices) (Unit {0})) → ((m : Traced Slices) (y : ℕ) → Stays m.mach.work (f m y)) → (x : ℕ) (had : Bool) (m : Traced Slices) → Stays m.mach.work (once (N cont) (table_of B) f x had m)
    unfolding once
    stays_once cont f h x true m = on refl
    stays_once cont f h x false m = stays_then m.mach.work (f m x) (λ m'. wrote ((N cont).forwarded x m')) (h m x) (λ m'. on (stays_flag cont x m'))

    stays_mention : (cont : ℕ) (had nm : Bool) (x : ℕ) (m : Traced Slices) → Stays m.mach.work (mention (N cont) (table_of B) had nm x m)
    unfolding mention
    stays_mention cont true nm x m = on refl
    stays_mention cont false true x m = stays_once cont (N cont).fwd_line (stays_fwd cont) x false m
    stays_mention cont false false x m = off

    stays_again : (m : Traced Slices) (x cont : ℕ) (nd : Node) → Stays m.mach.work (again (N cont) (table_of B) m x cont nd)
    unfolding again
    stays_again m x cont ignored = on refl
    stays_again m x cont plain = on refl
    stays_again m x cont (listed f) = on refl
    stays_again m x cont (through a t) = on refl
    stays_again m x cont (ptr t) = on refl
    stays_again m x cont (tdef t) = stays_once cont (N cont).alias_line (stays_alias cont) x ((N cont).has_fwd m x) m
    stays_again m x cont (proto ts) = on refl
    stays_again m x cont (comp ms) = stays_mention cont ((N cont).has_fwd m x || eqb x cont) ((table_of B).named x) x m

    stays_close : (cont : ℕ) (top : Bool) (x : ℕ) (m : Traced Slices) → Stays m.mach.work (close (N cont) (table_of B) top x m)
    unfolding close
    stays_close cont true x m = stays_then m.mach.work ((N cont).body m x) (λ m'. wrote ((N cont).emark done x m')) (stays_body cont m x) (λ m'. on (stays_emark cont done x m'))
    stays_close cont false x m = on (stays_emark cont new x m)

    stays_leaf : (cont : ℕ) (top : Bool) (x : ℕ) (m : Traced Slices) → Stays m.mach.work (leaf (N cont) (table_of B) top x m)
    unfolding leaf
    stays_leaf cont true x m = stays_then m.mach.work ((N cont).leaf_line m x) (λ m'. wrote ((N cont).emark done x m')) (stays_leaf_line cont m x) (λ m'. on (stays_emark cont done x m'))
    stays_leaf cont false x m = on (stays_emark cont done x m)

    module _ (rec : Traced Slices → ℕ → ℕ → Out (Traced Slices) (Unit {0})) (h : (m : Traced Slices) (y c : ℕ) → Stays m.mach.work (rec m y c)) (m : Traced Slices) (x cont : ℕ) where
      stays_within : (all nm : Bool) (ms : List ℕ) → Stays m.mach.work (within (N cont) (table_of B) rec m x cont all nm ms)
      unfolding within
      stays_within true nm ms =
          stays_from m.mach.work ((N cont).emark busy x m).mach.work (eeach (λ m' y. rec m' y (pick nm x cont)) ms ((N cont).emark busy x m)) (stays_emark cont busy x m)
          (stays_eeach (λ m' y. rec m' y (pick nm x cont)) (λ m' y. h m' y (pick nm x cont)) ms ((N cont).emark busy x m))
      stays_within false nm ms =
          stays_from m.mach.work ((N cont).emark busy x m).mach.work (once (N cont) (table_of B) (N cont).fwd_line x ((N cont).has_fwd m x || eqb x cont) ((N cont).emark busy x m)) (stays_emark cont busy x m)
          (stays_once cont (N cont).fwd_line (stays_fwd cont) x ((N cont).has_fwd m x || eqb x cont) ((N cont).emark busy x m))

      stays_begin : (top : Bool) (nd : Node) → Stays m.mach.work (begin (N cont) (table_of B) rec m x cont top nd)
      unfolding begin
      stays_begin top ignored = on refl
      stays_begin top plain = on refl
      stays_begin top (listed f) = stays_leaf cont (f || top) x m
      stays_begin top (through a t) = h m t cont
      stays_begin top (ptr t) = h m t cont
      stays_begin top (tdef t) =
          stays_from m.mach.work ((N cont).emark busy x m).mach.work _ (stays_emark cont busy x m)
          (stays_then ((N cont).emark busy x m).mach.work (rec ((N cont).emark busy x m) t x) (λ m'. obind (once (N cont) (table_of B) (N cont).alias_line x ((N cont).has_fwd m' x) m') (λ m''. wrote ((N cont).emark done x m'')))
          (h ((N cont).emark busy x m) t x)
          (λ m'. stays_then m'.mach.work (once (N cont) (table_of B) (N cont).alias_line x ((N cont).has_fwd m' x) m') (λ m''. wrote ((N cont).emark done x m'')) (stays_once cont (N cont).alias_line (stays_alias cont) x ((N cont).has_fwd m' x) m') (λ m''. on (stays_emark cont done x m''))))
      stays_begin top (proto ts) = stays_eeach (λ m' y. rec m' y cont) (λ m' y. h m' y cont) ts m
      stays_begin top (comp ms) = stays_then m.mach.work (within (N cont) (table_of B) rec m x cont (top || not ((table_of B).named x)) ((table_of B).named x) ms) (close (N cont) (table_of B) top x) (stays_within (top || not ((table_of B).named x)) ((table_of B).named x) ms) (λ m'. stays_close cont top x m')

      stays_allowed : (no_name : Bool) → Stays m.mach.work (allowed (N cont) (table_of B) rec m x cont no_name)
      unfolding allowed
      stays_allowed true = off
      stays_allowed false = stays_begin (is_zero cont) ((table_of B).node x)

      stays_look : (k : Mark) → Stays m.mach.work (look (N cont) (table_of B) rec m x cont k)
      unfolding look
      stays_look new = stays_allowed (is_zero cont && not ((table_of B).named x))
      stays_look busy = stays_again m x cont ((table_of B).node x)
      stays_look done = on refl

    pub stays_emit : (n : ℕ) (m : Traced Slices) (x cont : ℕ) → Stays m.mach.work (emit_n b B lent why n cont m x)
    unfolding emit_n
    stays_emit zero m x cont = off
    stays_emit (suc n) m x cont = stays_look (λ m' y c. emit_n b B lent why n c m' y) (λ m' y c. stays_emit n m' y c) m x cont ((work_machine b B).eget m.mach x)

-- the type table
table_flag : (b : TypeTable) (s : List ℕ) (w : List ℕ) (x v : ℕ) → btf_of b s (put_field w x 3 v) ≡ btf_of b s w
table_flag b s w x v = table_field w x 3 v (omega arith) b s (λ e. omega arith) (λ e. omega arith) (λ e. omega arith)

table_count : (b : TypeTable) (s : List ℕ) (w : List ℕ) (v : ℕ) → btf_of b s (put_field w 0 2 v) ≡ btf_of b s w
table_count b s w v = table_field w 0 2 v (omega arith) b s (λ e. omega arith) (λ e. omega arith) (λ e. omega arith)

table_aligns : (b : TypeTable) (s : List ℕ) (w : List ℕ) (x v : ℕ) → btf_of b s (put_field w x 15 v) ≡ btf_of b s w
table_aligns b s w x v = table_field w x 15 v (omega arith) b s (λ e. omega arith) (λ e. omega arith) (λ e. omega arith)

table_names : (b : TypeTable) (s : List ℕ) (space : Space) (id : ℕ) (name : Name) (w : List ℕ) → btf_of b s ((work_naming b).type_version space id name w).names ≡ btf_of b s w
unfolding work_naming
table_names b s space id name w = table_type_version b s w id

table_values : (b : TypeTable) (s : List ℕ) (id i : ℕ) (name : Name) (w : List ℕ) → btf_of b s ((work_naming b).value_version id i name w).names ≡ btf_of b s w
unfolding work_naming
table_values b s id i name w = table_value_version b s w (enumerator_of w id i)

module _ (b : TypeTable) (s : List ℕ) (B : Rules) (lent : Lent) (why : ℕ → Entry) where
  pub table_emit : (n : ℕ) (m : Traced Slices) (x cont : ℕ) → Stays (btf_of b s) m.mach.work (emit_n b B lent why n cont m x)
  table_emit = stays_emit (btf_of b s) b (table_emark b s) (table_flag b s) (table_count b s) (table_aligns b s) (table_names b s) (table_values b s) B lent why

  pub table_each : (n cont : ℕ) (ys : List ℕ) (m : Traced Slices) → Stays (btf_of b s) m.mach.work (eeach (λ m' y. emit_n b B lent why n cont m' y) ys m)
  table_each n cont ys m =
      stays_eeach (btf_of b s) b (table_emark b s) (table_flag b s) (table_count b s) (table_aligns b s) (table_names b s) (table_values b s) B lent why (λ m' y. emit_n b B lent why n cont m' y) (λ m' y. table_emit n m' y cont) ys m

-- the places of the order list
place_apart : (types c j : ℕ) → j * 16 + 11 ≢ count_p types c
place_apart types c j e =
    ⊎_elim
    (λ l. let q : j * 16 + 11 ≡ c * 16 + 6 = e ∙ sym (place_type types 6 2 c l) in omega arith)
    (λ l. let q : j * 16 + 11 ≡ types * 16 + (c - types) * 8 + 2 = e ∙ sym (place_enum types 6 2 c l) in omega arith)
    (cases_lt c types)

places_counted : (types : ℕ) (w : List ℕ) (h : ℕ) → places (count_raised (class_p types) (count_p types) w h) ≡ places w
places_counted types w h = λ i k. counted_other types w h (k * 16 + 11) (λ c. place_apart types c k) i

places_field : (f : ℕ) → f < 16 → f ≢ 11 → (w : List ℕ) (x v : ℕ) → places (put_field w x f v) ≡ places w
places_field f l ne w x v = λ i k. field_other w x f v k 11 l (omega arith) ne i

places_names : (b : TypeTable) (space : Space) (id : ℕ) (name : Name) (w : List ℕ) → places ((work_naming b).type_version space id name w).names ≡ places w
unfolding work_naming type_version_in
places_names b space id name w = go (eqb (get_field w id 4) 0)
  where
    n : ℕ
    n = number_at b.types w id

    u : List ℕ
    u = count_raised (class_p b.types) (count_p b.types) w id

    go : (t : Bool) → places (elim t as (λ z. Resolved (List ℕ)) [ false ↦ record { passes = false; version = get_field w id 4; names = w } | true ↦ record { passes = false; version = n; names = put_field u id 4 n } ]).names ≡ places w
    go false = refl
    go true = places_field 4 (omega arith) (λ e. omega arith) u id n ∙ places_counted b.types w id

places_values : (b : TypeTable) (id i : ℕ) (name : Name) (w : List ℕ) → places ((work_naming b).value_version id i name w).names ≡ places w
unfolding work_naming value_version_in
places_values b id i name w = go (ltb (b.types + enumerator_of w id i) 4294967296)
  where
    n : ℕ
    n = number_at b.types w (b.types + enumerator_of w id i)

    u : List ℕ
    u = count_raised (class_p b.types) (count_p b.types) w (b.types + enumerator_of w id i)

    go : (t : Bool) → places (elim t as (λ z. Resolved (List ℕ)) [ true ↦ record { passes = false; version = n; names = u } | false ↦ record { passes = false; version = 0; names = w } ]).names ≡ places w
    go false = refl
    go true = places_counted b.types w (b.types + enumerator_of w id i)

pub places_emit : (b : TypeTable) (B : Rules) (lent : Lent) (why : ℕ → Entry) (n : ℕ) (m : Traced Slices) (x cont : ℕ) → Stays places m.mach.work (emit_n b B lent why n cont m x)
places_emit b = stays_emit places b (places_field 13 (omega arith) (λ e. omega arith)) (places_field 3 (omega arith) (λ e. omega arith)) (λ w v. places_field 2 (omega arith) (λ e. omega arith) w 0 v) (places_field 15 (omega arith) (λ e. omega arith)) (places_names b) (places_values b)

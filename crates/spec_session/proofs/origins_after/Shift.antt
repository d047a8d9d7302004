-- A request after some entries: the request without them, in a list that is shorter by them, and then its entries behind them. Assumes nothing.
use Prim.Native.Nat.{ℕ, zero, suc, ◌+◌, ◌-◌}
use mathlib.Core.Path.{◌≡◌, refl, ap, ◌∙◌, sym}
use mathlib.Core.List.{List, [], ◌∷◌, ◌++◌, append_assoc, append-nil}
use mathlib.Core.Bool.{Bool, true, false, true≢false}
use mathlib.Core.Logic.{⊎_elim}
use native.Mathlib.Omega.{arith}
use lib.Dec.{ltb}
use lib.ListN.{length, length-append}
use borrow.Author.Tests.{lt-ltb, le-ltb}
use Rattle.std.proofs.lemmas.Bool.{cases_lt}
use Rattle.spec_c_dumper.specs.rules.Order.{Node, ignored, plain, listed, through, ptr, tdef, proto, comp, Table, Mark, new, busy, done, Res, ok, refused, fresh, visit}
use Rattle.spec_c_dumper.specs.rules.Machine.{Out, wrote, stuck, Machine, obind, eeach}
use Rattle.spec_c_dumper.specs.rules.Types.{Btf as Rules, table_of}
use Rattle.spec_type_table.specs.declared.types.TypeTable.{TypeTable}
use Rattle.spec_type_table.specs.Cells.{get_field}
use Rattle.spec_type_table.specs.Table.{from, btf_of}
use Rattle.c_dumper_dependency_order.specs.order_state.Work.{mark_of, work_store}
use Rattle.spec_session.specs.emission.Slices.{Slices, slices_store, emptied, work_machine, is_ignored, is_idle}
use Rattle.spec_c_dumper.proofs.rules.Maps.{omap, MachineMap, map_obind, map_eeach, map_look}
use Rattle.spec_session.specs.calls.Calls.{came_to, lent_to}
use Rattle.spec_c_dumper.specs.origins.Causes.{Entry, entry, WithLeaders, leader_store, inside, is_around, order_with_leaders, listed_entry, Traced, with_entries, up_to, line, cause_at, noting, emit_traced, each_listed, shows_in}
use Rattle.spec_c_dumper.specs.origins.Claims.{forget}
use Rattle.spec_session.specs.origin_calls.Bytes.{listed_traced, dumped_traced, Reached as Came, entries_after, came_to_traced, requested_traced}

module _ {M H : Type 0} (X : Machine M H) (T : Table) (shows : ℕ → Bool) (room : ℕ) (es : List Entry) where
  abbrev after : Traced M → Traced M
  after s = record { mach = s.mach; entries = es ++ s.entries }

  abbrev left : ℕ
  left = room - length es

  more_same : (j : ℕ) → ltb (length es + j) room ≡ ltb j left
  more_same j = ⊎_elim (λ h. lt-ltb (length es + j) room h ∙ sym (lt-ltb j left (omega arith))) (λ h. le-ltb (length es + j) room h ∙ sym (le-ltb j left (omega arith))) (cases_lt (length es + j) room)

  said_shift : (fs : List Entry) (o : Out M H) → with_entries (es ++ fs) o ≡ omap after (λ h. h) (with_entries fs o)
  unfolding with_entries
  said_shift fs (wrote m) = refl
  said_shift fs (stuck h c) = refl

  line_shift : (shown : Bool) (e : Entry) (step : M → Out M H) (s : Traced M) → line X.held (up_to room) shown e step (after s) ≡ omap after (λ h. h) (line X.held (up_to left) shown e step s)
  unfolding line
  line_shift false e step s = said_shift s.entries (step s.mach)
  line_shift true e step s =
      ap (λ (n : ℕ). elim (ltb n room) as (λ z. Out (Traced M) H) [ true ↦ with_entries ((es ++ s.entries) ++ (e ∷ [])) (step s.mach) | false ↦ stuck (X.held s.mach) 17 ]) (length-append es s.entries)
      ∙ ap (λ (c : Bool). elim c as (λ z. Out (Traced M) H) [ true ↦ with_entries ((es ++ s.entries) ++ (e ∷ [])) (step s.mach) | false ↦ stuck (X.held s.mach) 17 ]) (more_same (length s.entries))
      ∙ ap (λ (l : List Entry). elim (ltb (length s.entries) left) as (λ z. Out (Traced M) H) [ true ↦ with_entries l (step s.mach) | false ↦ stuck (X.held s.mach) 17 ]) (append_assoc es s.entries (e ∷ []))
      ∙ both (ltb (length s.entries) left)
    where
      both : (c : Bool) → (elim c as (λ z. Out (Traced M) H) [ true ↦ with_entries (es ++ (s.entries ++ (e ∷ []))) (step s.mach) | false ↦ stuck (X.held s.mach) 17 ])
          ≡ omap after (λ h. h) (elim c as (λ z. Out (Traced M) H) [ true ↦ with_entries (s.entries ++ (e ∷ [])) (step s.mach) | false ↦ stuck (X.held s.mach) 17 ])
      both true = said_shift (s.entries ++ (e ∷ [])) (step s.mach)
      both false = refl

  module _ (why : ℕ → Entry) where
    shift_map : (cont : ℕ) → MachineMap (noting X (up_to left) shows why cont) (noting X (up_to room) shows why cont) after (λ h. h)
    shift_map cont = record {
      stores = record { gets = λ s x. refl; marks = λ d x s. refl; pushes = λ x s. refl; lists = λ s. refl };
      starts = λ r s. refl;
      egets = λ s x. refl;
      emarks = λ d x s. refl;
      flags = λ s x. refl;
      flagged = λ x s. refl;
      fwd_lines = λ s x. line_shift (shows x) (entry x 2 cont) (λ m. X.fwd_line m x) s;
      alias_lines = λ s x. line_shift (shows x) (cause_at 3 (why x) x cont) (λ m. X.alias_line m x) s;
      leaf_lines = λ s x. line_shift true (cause_at 2 (why x) x cont) (λ m. X.leaf_line m x) s;
      bodies = λ s x. line_shift true (why x) (λ m. X.body m x) s;
      helds = λ s. refl;
    }

    emit_shift : (n : ℕ) (s : Traced M) (x cont : ℕ) → emit_traced X (up_to room) shows why T n (after s) x cont ≡ omap after (λ h. h) (emit_traced X (up_to left) shows why T n s x cont)
    unfolding emit_traced
    emit_shift zero s x cont = refl
    emit_shift (suc n) s x cont =
        map_look (noting X (up_to left) shows why cont) (noting X (up_to room) shows why cont) after (λ h. h) (shift_map cont) T (λ s' y c. emit_traced X (up_to room) shows why T n s' y c) (λ s' y c. emit_traced X (up_to left) shows why T n s' y c)
        (λ s' y c. emit_shift n s' y c) s x cont (X.eget s.mach x)

  abbrev last : Traced M → Out (Traced M) H
  last k = wrote (record { mach = X.start 0 k.mach; entries = k.entries })

  listed_shift : (h : H) (x : ℕ) (o : Res (WithLeaders M)) → listed_traced X T (up_to room) shows h x es o ≡ omap after (λ m. m) (listed_traced X T (up_to left) shows h x [] o)
  unfolding listed_traced
  listed_shift h x (ok s b) =
      let why : ℕ → Entry = listed_entry x s.leaders in
      let begun : Traced M = record { mach = s.state; entries = [] } in
      ap (λ (l : List Entry). obind (each_listed X T (up_to room) shows why (X.store.list s.state) (record { mach = s.state; entries = l })) last) (sym (append-nil es))
      ∙ ap (λ (o : Out (Traced M) H). obind o last)
      (map_eeach (noting X (up_to left) shows why 0) (noting X (up_to room) shows why 0) after (λ h. h) (shift_map why 0) T (λ m y. emit_traced X (up_to room) shows why T 512 m y 0) (λ m y. emit_traced X (up_to left) shows why T 512 m y 0) (λ m y. emit_shift why 512 m y 0) (X.store.list s.state) begun)
      ∙ map_obind (noting X (up_to left) shows why 0) (noting X (up_to room) shows why 0) after (λ h. h) (shift_map why 0) T (each_listed X T (up_to left) shows why (X.store.list s.state) begun) last last (λ k. refl)
  listed_shift h x (refused c) = refl

  dumped_shift : (m : M) (x : ℕ) → dumped_traced X T (up_to room) shows m es x ≡ omap after (λ h. h) (dumped_traced X T (up_to left) shows m [] x)
  unfolding dumped_traced
  dumped_shift m x = listed_shift (X.held m) x (order_with_leaders X.store x 512 T [] (record { state = m; leaders = [] }) x false)

-- where a request has come to, with entries before it
abbrev pub behind : List Entry → Came → Came
behind es r = record { reach = r.reach; entries = es ++ r.entries }

came_shift : (X : Machine Slices (Unit {0})) (T : Table) (shows : ℕ → Bool) (room len v : ℕ) (t : List ℕ) (es : List Entry) (o : Out (Traced Slices) (Unit {0})) → came_to_traced len v t es (omap (after X T shows room es) (λ h. h) o) ≡ behind es (came_to_traced len v t [] o)
unfolding came_to_traced forget entries_after
came_shift X T shows room len v t es (wrote m) = refl
came_shift X T shows room len v t es (stuck h c) = ap (λ (l : List Entry). record { reach = came_to len v t (stuck h c); entries = l }) (sym (append-nil es))

pub requested_shift : (room : ℕ) (b : TypeTable) (s : List ℕ) (id : ℕ) (es : List Entry) (len v : ℕ) (w t : List ℕ) → requested_traced (up_to room) b s id es len v w t ≡ behind es (requested_traced (up_to (room - length es)) b s id [] len v w t)
unfolding requested_traced
requested_shift room b s id es len v w t =
    ap (came_to_traced len v t es) (dumped_shift (work_machine b (btf_of b s w)) (table_of (btf_of b s w)) (shows_in (btf_of b s w)) room es (record { work = w; text = lent_to len t; at = 0; len = 0 }) id)
    ∙ came_shift (work_machine b (btf_of b s w)) (table_of (btf_of b s w)) (shows_in (btf_of b s w)) room len v t es (dumped_traced (work_machine b (btf_of b s w)) (table_of (btf_of b s w)) (up_to (room - length es)) (shows_in (btf_of b s w)) (record { work = w; text = lent_to len t; at = 0; len = 0 }) [] id)

-- ---- an id with nothing to write
module _ (b : TypeTable) (s w u : List ℕ) (id : ℕ) (more : ℕ → Bool) (es : List Entry) where
  abbrev B : Rules
  B = btf_of b s w

  abbrev start : Slices
  start = record { work = w; text = u; at = 0; len = 0 }

  abbrev began : WithLeaders Slices
  began = record { state = start; leaders = [] }

  quiet : (f : Bool) → listed_traced (work_machine b B) (table_of B) more (shows_in B) tt id es (ok began f) ≡ wrote (record { mach = start; entries = es })
  unfolding listed_traced work_machine slices_store work_store from eeach obind emptied
  quiet f = refl

  idle_visit : (rec : WithLeaders Slices → ℕ → Bool → Res (WithLeaders Slices)) (d : Mark) → is_idle d ((table_of B).node id) ≡ true → listed_traced (work_machine b B) (table_of B) more (shows_in B) tt id es (visit (leader_store slices_store id []) (table_of B) rec began id false d) ≡ wrote (record { mach = start; entries = es })
  unfolding visit is_idle fresh is_ignored
  idle_visit rec new e = go ((table_of B).node id) e
    where
      go : (nd : Node) → is_ignored nd ≡ true → listed_traced (work_machine b B) (table_of B) more (shows_in B) tt id es (fresh (leader_store slices_store id []) (table_of B) rec began id false nd) ≡ wrote (record { mach = start; entries = es })
      go ignored q = quiet false
      go plain q = absurd (true≢false (sym q))
      go (listed f) q = absurd (true≢false (sym q))
      go (through a t) q = absurd (true≢false (sym q))
      go (ptr t) q = absurd (true≢false (sym q))
      go (tdef t) q = absurd (true≢false (sym q))
      go (proto ts) q = absurd (true≢false (sym q))
      go (comp ms) q = absurd (true≢false (sym q))
  idle_visit rec busy e = absurd (true≢false (sym e))
  idle_visit rec done e = quiet true

  pub idle_traced : is_idle (mark_of (get_field w id 1)) ((table_of B).node id) ≡ true → dumped_traced (work_machine b B) (table_of B) more (shows_in B) start es id ≡ wrote (record { mach = start; entries = es })
  unfolding dumped_traced order_with_leaders work_machine slices_store work_store
  idle_traced e = idle_visit (λ s' y f. order_with_leaders slices_store id 511 (table_of B) (inside (is_around ((table_of B).node id)) id []) s' y f) (mark_of (get_field w id 1)) e

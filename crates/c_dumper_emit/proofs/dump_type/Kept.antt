-- The code's request is the request of the definitions: with a list that with entries, without one that under a ceiling. Assumes nothing.
use Prim.Native.Nat.{ℕ, ◌+◌, ◌/◌, ◌<◌, ◌≤◌}
use mathlib.Core.Path.{◌≡◌, refl, ap, ◌∙◌, sym, subst}
use mathlib.Core.Bool.{Bool, true, false, true≢false}
use mathlib.Core.List.{List, [], Memᴰ}
use mathlib.Core.Logic.{⊎_elim}
use native.Mathlib.Omega.{arith}
use lib.Dec.{eqb, leb}
use lib.ListN.{length, get_or, replicate, length-replicate, get_or-replicate, get_or-eq_default}
use borrow.Author.Tests.{le-leb}
use Rattle.std.proofs.lemmas.Bool.{cases_lt}
use Rattle.spec_c_dumper.specs.rules.Order.{Node, ignored, plain, listed, through, ptr, tdef, proto, comp, Table, Res, ok, refused}
use Rattle.spec_c_dumper.specs.ceiling.Ceiling.{Limit, unbounded, Told, told, halted}
use Rattle.spec_c_dumper.specs.rules.Machine.{Out, wrote, stuck, obind, eeach}
use Rattle.spec_c_dumper.specs.rules.Types.{Btf as Rules, node_of, table_of}
use Rattle.spec_type_table.specs.declared.types.TypeTable.{TypeTable}
use Rattle.spec_type_table.specs.declared.types.BtfType.{BtfType as Record}
use Rattle.spec_type_table.specs.Cells.{get_field}
use Rattle.spec_type_table.specs.Records.{record_at, void_record, record_by_id}
use Rattle.spec_type_table.proofs.KindLaws.{type_0}
use Rattle.spec_type_table.specs.Table.{type_of, btf_of}
use Rattle.c_dumper_dependency_order.specs.order_state.Work.{Marks, work_store}
use Rattle.spec_c_dumper.specs.rules.Request.{listed_out}
use Rattle.spec_session.specs.emission.Slices.{Slices, marks_in, with_marks, slices_store, work_machine, emit_in}
use Rattle.spec_session.specs.metered.Metered.{beside_of, dumped_metered}
use Rattle.spec_c_dumper.proofs.ceiling.Counted.{tell}
use Rattle.spec_c_dumper.proofs.rules.Maps.{rmap, tmap}
use Rattle.spec_c_dumper.specs.origins.Causes.{Entry, led_by, is_around, WithLeaders, order_with_leaders, listed_entry, Traced, with_entries, up_to, each_listed, shows_in}
use Rattle.spec_c_dumper.specs.origins.Claims.{is_listed, LedTo}
use Rattle.spec_session.specs.origin_calls.Bytes.{listed_traced, dumped_traced}
use Rattle.spec_c_dumper.proofs.origins.Ordering.{Holds, holds, none, AllLedTo, order_with_leaders_lem}
use Rattle.c_dumper_dependency_order.specs.leaders.Leaders.{MarksAndLeaders, leader_on_way, word_at, order_kept, entry_in}
use Rattle.c_dumper_dependency_order.proofs.leaders.Maps.{forget_kept}
use Rattle.c_dumper_emit.specs.entries.Traced.{Lent, emit_n}
use Rattle.c_dumper_emit.proofs.entries.Lists.{each_lists, each_plain, then_plain}
use Rattle.c_dumper_emit.specs.dump_type.Kept.{no_leaders, Before, way_to, Beside, with_leaders, ordered_kept, each_kept, listed_kept, dumped_kept}
use Rattle.c_dumper_emit.proofs.dump_type.Leaders.{tabled, kept_from, order_kept_lem, beside_leaders, lift_leaders, Fits, leader_is, before_none, before_more, tabled_before, entry_is}

-- no id past the words is a composite, a typedef, an enum or a FWD
abbrev pub Few : Rules → Type 0
Few B = (x : ℕ) → is_listed ((table_of B).node x) ≡ true → x < 262145

around_listed : (nd : Node) → is_around nd ≡ true → is_listed nd ≡ true
around_listed ignored e = e
around_listed plain e = e
around_listed (listed f) e = refl
around_listed (through a t) e = e
around_listed (ptr t) e = e
around_listed (tdef t) e = refl
around_listed (proto ts) e = e
around_listed (comp ts) e = refl

-- without the leaders
unfoldable pub forget_leaders : Out Beside (Unit {0}) → Out (Traced Slices) (Unit {0})
forget_leaders (wrote m) = wrote m.traced
forget_leaders (stuck h c) = stuck h c

pub forget_with : (l : List ℕ) (o : Out (Traced Slices) (Unit {0})) → forget_leaders (with_leaders l o) ≡ o
unfolding forget_leaders with_leaders
forget_with l (wrote m) = refl
forget_with l (stuck h c) = refl

with_is : (l : List ℕ) (o : Out (Traced Slices) (Unit {0})) (k : Beside) → with_leaders l o ≡ wrote k → k.leaders ≡ l
unfolding with_leaders
with_is l (wrote m) k e = let z : k ≡ record { traced = m; leaders = l } = cc in ap (λ (y : Beside). y.leaders) z
with_is l (stuck h c) k e = absurd (let z : ◌≡◌ {A = ℕ} 0 1 = cc in omega arith)

-- ---- before the first request
zeros_before : (n : ℕ) (l : List ℕ) → l ≡ replicate n 0 → Before 1 l
unfolding Before word_at
zeros_before n l e x =
    let z : ◌≡◌ {A = ℕ} (get_or (replicate n 0) x 0) 0 = ⊎_elim (λ h. get_or-replicate n x 0 0 h) (λ h. get_or-eq_default (replicate n 0) 0 (subst (λ (i : ℕ). i ≤ x) (sym (length-replicate n 0)) h)) (cases_lt x n) in
    subst (λ (k : ℕ). k / 4294967296 < 1) (sym (ap (λ (u : List ℕ). get_or u x 0) e ∙ z)) (omega arith)

no_leads_lem : no_leaders ≡ replicate 262145 0
unfolding no_leaders
no_leads_lem = refl

pub none_before : (l : List ℕ) → l ≡ no_leaders → Before 1 l
none_before l e = zeros_before 262145 l (e ∙ no_leads_lem)

-- ---- with a list, and without a ceiling
module _ (b : TypeTable) (B : Rules) (few : Few B) (room : ℕ) (m : Slices) (es : List Entry) (id : ℕ) (small : id < 4294967296) (turn : ℕ) (l₀ : List ℕ) (size : length l₀ ≡ 262145) (old : Before turn l₀) (made : ℕ) where
  abbrev held : Lent
  held = record { lists = true; room = room }

  abbrev T : Table
  T = table_of B

  abbrev start : Traced Slices
  start = record { mach = m; entries = es }

  fits : (p : ℕ × ℕ) → LedTo T id p.0 p.1 → Fits 262145 p
  fits p h = record {
    id_fits = few p.0 h.is_listed_lem;
    leader_fits = ⊎_elim (λ e. subst (λ (k : ℕ). k < 4294967296) (sym e) small) (λ q. let i : p.1 < 262145 = few p.1 (around_listed (T.node p.1) q.1) in omega arith) h.which;
  }

  whys : (leaders : List (ℕ × ℕ)) → ((p : ℕ × ℕ) → Memᴰ p leaders → LedTo T id p.0 p.1) → entry_in id turn (tabled turn l₀ leaders) ≡ listed_entry id leaders
  whys leaders h = entry_is id turn (tabled turn l₀ leaders) leaders (λ x. leader_is id turn 262145 leaders l₀ size (λ p i. fits p (h p i)) x (before_none turn l₀ old x))

  same : (r : Res (WithLeaders Marks)) → Holds (AllLedTo T id) r → forget_leaders (listed_kept b B held id turn start (tell (rmap (kept_from id turn l₀) r) made)) ≡ listed_traced (work_machine b B) T (up_to room) (shows_in B) tt id es (rmap (beside_leaders m id) r)
  unfolding listed_kept listed_traced each_kept work_machine forget_leaders tell
  same (ok s f) (holds h) =
      forget_with (tabled turn l₀ s.leaders) (obind (eeach (emit_n b B held (entry_in id turn (tabled turn l₀ s.leaders)) 512 0) listed after) last)
      ∙ ap (λ (o : Out (Traced Slices) (Unit {0})). obind o last) (each_lists b B room (entry_in id turn (tabled turn l₀ s.leaders)) listed after ∙ ap (λ (why : ℕ → Entry). each_listed (work_machine b B) T (up_to room) (shows_in B) why listed after) (whys s.leaders h))
    where
      listed : List ℕ
      listed = slices_store.list (with_marks m s.state)

      after : Traced Slices
      after = record { mach = with_marks m s.state; entries = es }

      last : Traced Slices → Out (Traced Slices) (Unit {0})
      last k = wrote (record { mach = (work_machine b B).start 0 k.mach; entries = k.entries })
  same (refused c) none = refl

  later : (r : Res (WithLeaders Marks)) → Holds (AllLedTo T id) r → (k : Beside) → listed_kept b B held id turn start (tell (rmap (kept_from id turn l₀) r) made) ≡ wrote k → Before (turn + 1) k.leaders
  unfolding listed_kept tell
  later (ok s f) (holds h) k e = subst (Before (turn + 1)) (sym (with_is (tabled turn l₀ s.leaders) _ k e)) (tabled_before turn 262145 s.leaders l₀ size (λ p i. fits p (h p i)) (before_more turn l₀ old))
  later (refused c) none k e = absurd (let z : ◌≡◌ {A = ℕ} 0 1 = cc in omega arith)

  abbrev began : WithLeaders Marks
  began = record { state = marks_in m; leaders = [] }

  two_start : (x : ℕ) → leader_on_way (way_to id turn) x ≡ led_by id [] x
  unfolding leader_on_way led_by
  two_start x = go (eqb id x)
    where
      go : (c : Bool) → (elim c [ true ↦ id | false ↦ id ]) ≡ id
      go true = refl
      go false = refl

  kept_is : dumped_kept b B held unbounded (record { traced = start; leaders = l₀ }) id turn made ≡ listed_kept b B held id turn start (tell (rmap (kept_from id turn l₀) (order_with_leaders work_store id 512 T [] began id false)) made)
  unfolding dumped_kept ordered_kept tabled
  kept_is = ap (listed_kept b B held id turn start) (order_kept_lem id turn l₀ 512 (way_to id turn) [] refl two_start T began id false made)

  -- THE THEOREM: the entries are those of the definitions, and what is noted then was noted before the next turn
  pub dumped_kept_lem : forget_leaders (dumped_kept b B held unbounded (record { traced = start; leaders = l₀ }) id turn made) ≡ dumped_traced (work_machine b B) T (up_to room) (shows_in B) m es id
  unfolding dumped_traced work_machine
  dumped_kept_lem =
      ap forget_leaders kept_is
      ∙ same (order_with_leaders work_store id 512 T [] began id false) (order_with_leaders_lem work_store T id 512 (marks_in m) false)
      ∙ ap (listed_traced (work_machine b B) T (up_to room) (shows_in B) tt id es) (sym (lift_leaders m id 512 T [] began id false))

  pub kept_before : (k : Beside) → dumped_kept b B held unbounded (record { traced = start; leaders = l₀ }) id turn made ≡ wrote k → Before (turn + 1) k.leaders
  kept_before k e = later (order_with_leaders work_store id 512 T [] began id false) (order_with_leaders_lem work_store T id 512 (marks_in m) false) k (sym kept_is ∙ e)

-- ---- without a list
module _ (b : TypeTable) (B : Rules) (room : ℕ) (lim : Limit) (m : Slices) (es : List Entry) (l₀ : List ℕ) (id turn made : ℕ) where
  abbrev none_held : Lent
  none_held = record { lists = false; room = room }

  abbrev first : Traced Slices
  first = record { mach = m; entries = es }

  bare : (t : Told MarksAndLeaders) → forget_leaders (listed_kept b B none_held id turn first t) ≡ with_entries es (listed_out (work_machine b B) (table_of B) tt (beside_of m (tmap (λ (k : MarksAndLeaders). k.marks) t)))
  unfolding listed_kept each_kept forget_leaders with_entries listed_out beside_of emit_in work_machine
  bare (told s strong j) =
      forget_with s.leaders (obind (eeach (emit_n b B none_held why 512 0) listed (record { mach = after; entries = es })) last)
      ∙ ap (λ (o : Out (Traced Slices) (Unit {0})). obind o last) (each_plain b B room why es listed after)
      ∙ then_plain b B room why es (eeach (emit_in b B 512 0) listed after) last (λ k. wrote ((work_machine b B).start 0 k)) (λ k. refl)
    where
      why : ℕ → Entry
      why = entry_in id turn s.leaders

      after : Slices
      after = with_marks m s.marks

      listed : List ℕ
      listed = slices_store.list (with_marks m s.marks)

      last : Traced Slices → Out (Traced Slices) (Unit {0})
      last k = wrote (record { mach = (work_machine b B).start 0 k.mach; entries = k.entries })
  bare (halted c j) = refl

  -- THE THEOREM: the entries stay, and the rest is the request under the ceiling
  pub dumped_bare : forget_leaders (dumped_kept b B none_held lim (record { traced = first; leaders = l₀ }) id turn made) ≡ with_entries es (dumped_metered b B lim m id made)
  unfolding dumped_kept ordered_kept dumped_metered
  dumped_bare =
      bare (order_kept lim (way_to id turn) 512 (table_of B) (record { marks = marks_in m; leaders = l₀ }) id false made)
      ∙ ap (λ (t : Told Marks). with_entries es (listed_out (work_machine b B) (table_of B) tt (beside_of m t))) (sym (forget_kept lim (way_to id turn) 512 (table_of B) (record { marks = marks_in m; leaders = l₀ }) id false made))

-- a table of a session has no more types than there are words
past_record : (b : TypeTable) (s w : List ℕ) (x : ℕ) → b.types ≤ x → record_by_id b s w x ≡ void_record
unfolding record_by_id
past_record b s w x h = go (eqb x 0) (leb b.types x) (le-leb b.types x h)
  where
    go : (c d : Bool) → d ≡ true → (elim c as (λ z. Record) [ true ↦ void_record | false ↦ elim d as (λ z. Record) [ true ↦ void_record | false ↦ record_at b s (get_field w x 0) ] ]) ≡ void_record
    go true d e = refl
    go false true e = refl
    go false false e = absurd (true≢false (sym e))

void_plain : (b : TypeTable) (s : List ℕ) → node_of (type_of b s void_record) ≡ plain
unfolding void_record
void_plain b s = ap node_of (type_0 b s void_record refl)

past_plain : (b : TypeTable) (s w : List ℕ) (x : ℕ) → b.types ≤ x → node_of (type_of b s (record_by_id b s w x)) ≡ plain
past_plain b s w x h = ap (λ (r : Record). node_of (type_of b s r)) (past_record b s w x h) ∙ void_plain b s

pub few_types : (b : TypeTable) (s w : List ℕ) → b.types ≤ 262145 → Few (btf_of b s w)
unfolding btf_of
few_types b s w h x e = ⊎_elim (λ l. omega arith) (λ l. absurd (true≢false (sym e ∙ ap is_listed (past_plain b s w x l)))) (cases_lt x b.types)

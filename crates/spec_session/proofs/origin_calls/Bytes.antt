-- The calls over lent bytes, without their entries: the plain calls, unless the list is too short. Of all inputs; assumes nothing.
use Prim.Native.Nat.{ℕ, zero, suc, ◌-◌, ◌<◌, ◌≤◌}
use mathlib.Core.Path.{◌≡◌, refl, ap, ◌∙◌, sym, subst}
use mathlib.Core.Bool.{Bool, true, false, true≢false}
use mathlib.Core.List.{List, []}
use mathlib.Core.Logic.{⊎_elim}
use native.Mathlib.Omega.{arith}
use lib.ListN.{length}
use lib.Dec.{ltb}
use Rattle.std.proofs.lemmas.Bool.{cases_lt}
use Rattle.spec_c_dumper.specs.rules.Order.{Table, Res, ok, refused}
use Rattle.spec_c_dumper.specs.rules.Machine.{Out, wrote, stuck, Machine, eeach, emit}
use Rattle.spec_c_dumper.specs.rules.Types.{table_of}
use Rattle.spec_type_table.specs.declared.types.TypeTable.{TypeTable}
use Rattle.spec_type_table.specs.Table.{btf_of}
use Rattle.spec_session.specs.emission.Slices.{Slices, work_machine}
use Rattle.spec_c_dumper.specs.rules.Request.{listed_out, dumped}
use Rattle.spec_session.specs.declared.session.Session.{Session}
use Rattle.spec_session.specs.session.Answers.{number_of, answer_of}
use Rattle.spec_session.specs.calls.Refusals.{not_current, id_not_below, refusal}
use Rattle.spec_session.specs.session.Turns.{Call, is_current, Reach, reached, refused_by, settled, unchanged, table_for, visits_in}
use Rattle.spec_session.specs.calls.Calls.{came_to, lent_to, requested, onward, requested_from, type_call, types_call}
use Rattle.spec_c_dumper.specs.origins.Causes.{Entry, WithLeaders, order_with_leaders, listed_entry, Traced, up_to, always, emit_traced, each_listed, shows_in, filled, entries_in}
use Rattle.spec_c_dumper.specs.origins.Claims.{forget, Numbered, Lined, Listed}
use Rattle.spec_session.specs.origin_calls.Bytes.{listed_traced, dumped_traced, Reached, entries_after, came_to_traced, requested_traced, onward_traced, requested_from_traced, settled_traced, left_alone, type_causes, types_causes, CauseFits}
use Rattle.spec_c_dumper.proofs.origins.Ordering.{without_leaders, order_forgets}
use Rattle.spec_c_dumper.proofs.origins.Emission.{lined_wrote, lined_bind, each_lined, emit_lined}
use Rattle.spec_c_dumper.proofs.origins.Requests.{filled_listed}

-- whatever the numbers are
no_number : {M H : Type 0} {Z : Type 0} {k : ℕ} {F : (ℕ → Bool) → Out (Traced M) H} {P : Out M H} → Lined Z k F P → Lined ⊥ k F P
no_number h = record { same = h.same; need = h.need; from = h.from; fits = h.fits; short = h.short; counts = h.counts; numbered = λ z m q. z }

lined_refused : {M H : Type 0} (h : H) (k e : ℕ) → Lined {M = M} ⊥ k (λ r. stuck h e) (stuck h e)
unfolding forget
lined_refused h k e = record { same = refl; need = k; from = omega arith; fits = λ c l. refl; short = λ c l q. absurd (omega arith); counts = λ s' q. absurd (let z : ◌≡◌ {A = ℕ} 0 1 = cc in omega arith); numbered = λ z m q. z }

-- ---- one request
module _ {M H : Type 0} (X : Machine M H) (T : Table) (shows : ℕ → Bool) where
  listed_lined : (h : H) (x : ℕ) (es : List Entry) (o : Res (WithLeaders M)) → Lined ⊥ (length es) (λ r. listed_traced X T r shows h x es o) (listed_out X T h (without_leaders o))
  unfolding listed_traced listed_out without_leaders
  listed_lined h x es (ok s b) =
      let m : Traced M = record { mach = s.state; entries = es } in
      lined_bind ⊥ (length es) (λ r. each_listed X T r shows (listed_entry x s.leaders) (X.store.list s.state) m) (eeach (λ m' y. emit X T 512 m' y 0) (X.store.list s.state) s.state)
      (no_number (each_lined (Numbered X) (λ r m' y. emit_traced X r shows (listed_entry x s.leaders) T 512 m' y 0) (λ m' y. emit X T 512 m' y 0) (λ m' y. emit_lined X shows (listed_entry x s.leaders) T 512 m' y 0) (X.store.list s.state) m))
      (λ r m'. wrote (record { mach = X.start 0 m'.mach; entries = m'.entries })) (λ m'. wrote (X.start 0 m')) (λ m'. lined_wrote ⊥ (record { mach = X.start 0 m'.mach; entries = m'.entries }))
  listed_lined h x es (refused c) = lined_refused h (length es) c

  pub dumped_lined : (m : M) (es : List Entry) (x : ℕ) → Lined ⊥ (length es) (λ r. dumped_traced X T r shows m es x) (dumped X T m x)
  unfolding dumped_traced dumped
  dumped_lined m es x =
      subst (λ (o : Res M). Lined ⊥ (length es) (λ r. listed_traced X T r shows (X.held m) x es (order_with_leaders X.store x 512 T [] (record { state = m; leaders = [] }) x false)) (listed_out X T (X.held m) o))
      (order_forgets X.store x 512 T [] (record { state = m; leaders = [] }) x false) (listed_lined (X.held m) x es (order_with_leaders X.store x 512 T [] (record { state = m; leaders = [] }) x false))

-- ---- where requests have come to
abbrev Short : Reach → Type 0
Short r = (len : ℕ) × (v : ℕ) × (t : List ℕ) × (r ≡ refused_by 17 len v t)

record ReachFits (k : ℕ) (F : (ℕ → Bool) → Reached) (P : Reach) : Type 0 where
  same : (F always).reach ≡ P
  need : ℕ
  from : k ≤ need
  held : length (F always).entries ≤ need
  fits : (c : ℕ) → need ≤ c → F (up_to c) ≡ F always
  short : (c : ℕ) → k ≤ c → c < need → Short (F (up_to c)).reach
  counts : (len : ℕ) (w t : List ℕ) → (F always).reach ≡ reached len w t → length (F always).entries ≡ need

abbrev is_reached : Reach → ℕ
is_reached (reached len w t) = 1
is_reached (refused_by c len v t) = 0

module _ (len v : ℕ) (t : List ℕ) (es : List Entry) where
  after_held : (n : ℕ) → length es ≤ n → (o : Out (Traced Slices) (Unit {0})) → ((m : Traced Slices) → o ≡ wrote m → length m.entries ≡ n) → length (entries_after es o) ≤ n
  unfolding entries_after
  after_held n l (wrote m) h = let q : length m.entries ≡ n = h m refl in omega arith
  after_held n l (stuck m c) h = l

  after_counts : (n : ℕ) (o : Out (Traced Slices) (Unit {0})) → ((m : Traced Slices) → o ≡ wrote m → length m.entries ≡ n) → is_reached (came_to len v t (forget o)) ≡ 1 → length (entries_after es o) ≡ n
  unfolding entries_after came_to forget
  after_counts n (wrote m) h q = h m refl
  after_counts n (stuck m c) h q = absurd (let z : ◌≡◌ {A = ℕ} 0 1 = q in omega arith)

  stuck_short : (h : Unit {0}) → Short (came_to len v t (forget (stuck h 17)))
  unfolding came_to forget
  stuck_short h = (len, v, _, refl)

  came_fits : (F : (ℕ → Bool) → Out (Traced Slices) (Unit {0})) (P : Out Slices (Unit {0})) → Lined ⊥ (length es) F P → ReachFits (length es) (λ r. came_to_traced len v t es (F r)) (came_to len v t P)
  unfolding came_to_traced
  came_fits F P h = record {
    same = ap (came_to len v t) h.same;
    need = h.need;
    from = h.from;
    held = after_held h.need h.from (F always) h.counts;
    fits = λ c l. ap (came_to_traced len v t es) (h.fits c l);
    short = λ c l q. subst (λ (o : Out (Traced Slices) (Unit {0})). Short (came_to len v t (forget o))) (sym (h.short c l q).1) (stuck_short (h.short c l q).0);
    counts = λ n w u e. after_counts h.need (F always) h.counts (ap is_reached e);
  }

module _ (b : TypeTable) (s : List ℕ) where
  requested_fits : (id : ℕ) (es : List Entry) (len v : ℕ) (w t : List ℕ) → ReachFits (length es) (λ r. requested_traced r b s id es len v w t) (requested b s id len v w t)
  unfolding requested_traced requested
  requested_fits id es len v w t =
      came_fits len v t es (λ r. dumped_traced (work_machine b (btf_of b s w)) (table_of (btf_of b s w)) r (shows_in (btf_of b s w)) (record { work = w; text = lent_to len t; at = 0; len = 0 }) es id)
      (dumped (work_machine b (btf_of b s w)) (table_of (btf_of b s w)) (record { work = w; text = lent_to len t; at = 0; len = 0 }) id)
      (dumped_lined (work_machine b (btf_of b s w)) (table_of (btf_of b s w)) (shows_in (btf_of b s w)) (record { work = w; text = lent_to len t; at = 0; len = 0 }) es id)

  -- one after another
  module _ (k : ℕ) (F : (ℕ → Bool) → Reached) (P : Reach) (h : ReachFits k F P) (g : (ℕ → Bool) → List Entry → ℕ → List ℕ → List ℕ → Reached) (p : ℕ → List ℕ → List ℕ → Reach)
      (hg : (es : List Entry) (len : ℕ) (w t : List ℕ) → ReachFits (length es) (λ r. g r es len w t) (p len w t)) where
    abbrev next : (ℕ → Bool) → Reached
    next r = onward_traced r b s (F r) (g r)

    goes : (r : ℕ → Bool) (u : Reached) → F r ≡ u → (len : ℕ) (w t : List ℕ) → u.reach ≡ reached len w t → next r ≡ g r u.entries len w t
    unfolding onward_traced
    goes r u e len w t q =
        ap (λ (v : Reached). onward_traced r b s v (g r)) e ∙ ap (λ (x : Reach). elim x as (λ (y : Reach). Reached) [ reached len' w' t' ↦ g r u.entries len' w' t' | refused_by c' len' v' t' ↦ u ]) q

    stops : (r : ℕ → Bool) (c len v : ℕ) (t : List ℕ) → (F r).reach ≡ refused_by c len v t → next r ≡ F r
    unfolding onward_traced
    stops r c len v t q = ap (λ (x : Reach). elim x as (λ (y : Reach). Reached) [ reached len' w' t' ↦ g r (F r).entries len' w' t' | refused_by c' len' v' t' ↦ F r ]) q

    short_stops : (r : ℕ → Bool) → Short (F r).reach → Short (next r).reach
    short_stops r q = (q.0, q.1, q.2, ap (λ (u : Reached). u.reach) (stops r 17 q.0 q.1 q.2 q.3) ∙ q.3)

    plain_goes : (len : ℕ) (w t : List ℕ) → P ≡ reached len w t → onward P p ≡ p len w t
    unfolding onward
    plain_goes len w t e = ap (λ (x : Reach). onward x p) e

    plain_stops : (c len v : ℕ) (t : List ℕ) → P ≡ refused_by c len v t → onward P p ≡ P
    unfolding onward
    plain_stops c len v t e = ap (λ (x : Reach). onward x p) e ∙ sym e

    by : (x : Reach) → (F always).reach ≡ x → ReachFits k next (onward P p)
    by (reached len w t) e =
        let u : Reached = F always in
        let q : ReachFits (length u.entries) (λ r. g r u.entries len w t) (p len w t) = hg u.entries len w t in
        let n : length u.entries ≡ h.need = h.counts len w t e in
        let i : k ≤ h.need = h.from in
        let j : length u.entries ≤ q.need = q.from in
        record {
          same = ap (λ (v : Reached). v.reach) (goes always u refl len w t e) ∙ q.same ∙ sym (plain_goes len w t (sym h.same ∙ e));
          need = q.need;
          from = omega arith;
          held = subst (λ (v : Reached). length v.entries ≤ q.need) (sym (goes always u refl len w t e)) q.held;
          fits = λ c l. goes (up_to c) u (h.fits c (omega arith)) len w t e ∙ q.fits c l ∙ sym (goes always u refl len w t e);
          short = λ c l z. ⊎_elim
              (λ f. short_stops (up_to c) (h.short c l f))
              (λ f. subst (λ (v : Reached). Short v.reach) (sym (goes (up_to c) u (h.fits c f) len w t e)) (q.short c (omega arith) z)) (cases_lt c h.need);
          counts = λ len' w' t' z. ap (λ (v : Reached). length v.entries) (goes always u refl len w t e) ∙ q.counts len' w' t' (sym (ap (λ (v : Reached). v.reach) (goes always u refl len w t e)) ∙ z);
        }
    by (refused_by d len i t) e = record {
      same = ap (λ (v : Reached). v.reach) (stops always d len i t e) ∙ h.same ∙ sym (plain_stops d len i t (sym h.same ∙ e));
      need = h.need;
      from = h.from;
      held = subst (λ (v : Reached). length v.entries ≤ h.need) (sym (stops always d len i t e)) h.held;
      fits = λ c l. stops (up_to c) d len i t (ap (λ (v : Reached). v.reach) (h.fits c l) ∙ e) ∙ h.fits c l ∙ sym (stops always d len i t e);
      short = λ c l z. short_stops (up_to c) (h.short c l z);
      counts = λ len' w' t' z. absurd (let q : ◌≡◌ {A = ℕ} 0 1 = ap is_reached (sym e ∙ sym (ap (λ (v : Reached). v.reach) (stops always d len i t e)) ∙ z) in omega arith);
    }

    onward_fits : ReachFits k next (onward P p)
    onward_fits = by (F always).reach refl

  from_fits : (n id : ℕ) (es : List Entry) (len : ℕ) (w t : List ℕ) → ReachFits (length es) (λ r. requested_from_traced r b s n id es len w t) (requested_from b s n id len w t)
  unfolding requested_from_traced requested_from
  from_fits zero id es len w t = record { same = refl; need = length es; from = omega arith; held = omega arith; fits = λ c l. refl; short = λ c l q. absurd (omega arith); counts = λ len' w' t' e. refl }
  from_fits (suc n) id es len w t =
      onward_fits (length es) (λ r. requested_traced r b s id es len (visits_in w) w t) (requested b s id len (visits_in w) w t) (requested_fits id es len (visits_in w) w t) (λ r. requested_from_traced r b s n (suc id)) (requested_from b s n (suc id)) (λ es' len' w' t'. from_fits n (suc id) es' len' w' t')

-- ---- calls
module _ (s : Session) (work text : List ℕ) where
  left_fits : (c : Call) → CauseFits c (λ l. left_alone c l)
  left_fits c = record { need = 0; entries = []; zeroed = false; same = λ l q. refl; counts = λ l q. refl; lists = λ z. absurd (true≢false (sym z)); leaves = λ z l. refl; short = λ l q. absurd (omega arith) }

  short_number : (r : Reach) → Short r → number_of (settled s (length work) (length text) r).answer ≡ 17
  unfolding settled number_of answer_of
  short_number r q = ap (λ (x : Reach). number_of (settled s (length work) (length text) x).answer) q.3

  settled_fits : (F : (ℕ → Bool) → Reached) (P : Reach) → ReachFits 0 F P → CauseFits (settled s (length work) (length text) P) (λ l. settled_traced s (length work) (length text) l (F (up_to (entries_in l))))
  unfolding settled_traced
  settled_fits F P h = record {
    need = h.need;
    entries = (F always).entries;
    zeroed = true;
    same = λ l q. ap (λ (u : Reached). settled s (length work) (length text) u.reach) (h.fits (entries_in l) q) ∙ ap (settled s (length work) (length text)) h.same;
    counts = λ l q. ap (λ (u : Reached). length u.entries) (h.fits (entries_in l) q);
    lists = λ z l q. let i : length (F always).entries ≤ h.need = h.held in
        subst (λ (u : Reached). Listed (length l) (F always).entries (filled (length l) u.entries)) (sym (h.fits (entries_in l) q)) (filled_listed (length l) (F always).entries (omega arith));
    leaves = λ z. absurd (true≢false z);
    short = λ l q. short_number (F (up_to (entries_in l))).reach (h.short (entries_in l) (omega arith) q);
  }

-- THE THEOREM, of all inputs
pub type_fits : (s : Session) (section work text : List ℕ) (id : ℕ) → CauseFits (type_call s section work text id) (λ l. type_causes s section work text id l)
unfolding type_causes type_call
type_fits s section work text id = by (is_current s (length section) (length work) (length text)) (ltb id s.types)
  where
    by : (o b : Bool) → CauseFits
        (elim o [ false ↦ unchanged s (refusal not_current s.text_len) work text | true ↦ elim b [ false ↦ unchanged s (refusal id_not_below s.text_len) work text | true ↦ settled s (length work) (length text) (requested (table_for s section) section id s.text_len s.visits work text) ] ])
        (λ l. elim o [
          | false ↦ left_alone (unchanged s (refusal not_current s.text_len) work text) l
          | true ↦ elim b [
            | false ↦ left_alone (unchanged s (refusal id_not_below s.text_len) work text) l
            | true ↦ settled_traced s (length work) (length text) l (requested_traced (up_to (entries_in l)) (table_for s section) section id [] s.text_len s.visits work text)
          ]
        ])
    by false b = left_fits s work text (unchanged s (refusal not_current s.text_len) work text)
    by true false = left_fits s work text (unchanged s (refusal id_not_below s.text_len) work text)
    by true true =
        settled_fits s work text (λ r. requested_traced r (table_for s section) section id [] s.text_len s.visits work text) (requested (table_for s section) section id s.text_len s.visits work text)
        (requested_fits (table_for s section) section id [] s.text_len s.visits work text)

pub types_fits : (s : Session) (section work text : List ℕ) → CauseFits (types_call s section work text) (λ l. types_causes s section work text l)
unfolding types_causes types_call
types_fits s section work text = by (is_current s (length section) (length work) (length text))
  where
    by : (o : Bool) → CauseFits
        (elim o [ false ↦ unchanged s (refusal not_current s.text_len) work text | true ↦ settled s (length work) (length text) (requested_from (table_for s section) section ((table_for s section).types - 1) 1 s.text_len work text) ])
        (λ l. elim o [
          | false ↦ left_alone (unchanged s (refusal not_current s.text_len) work text) l
          | true ↦ settled_traced s (length work) (length text) l (requested_from_traced (up_to (entries_in l)) (table_for s section) section ((table_for s section).types - 1) 1 [] s.text_len work text)
        ])
    by false = left_fits s work text (unchanged s (refusal not_current s.text_len) work text)
    by true =
        settled_fits s work text (λ r. requested_from_traced r (table_for s section) section ((table_for s section).types - 1) 1 [] s.text_len work text)
        (requested_from (table_for s section) section ((table_for s section).types - 1) 1 s.text_len work text) (from_fits (table_for s section) section ((table_for s section).types - 1) 1 [] s.text_len work text)

-- What the options decide of a request, one behind the entries of those before it; and a law for each return of `pass_idle` and
-- `dump_next`. Assumes nothing.
use Prim.Native.Nat.{ℕ, ◌+◌, ◌*◌, ◌-◌, ◌<◌, ◌≤◌}
use mathlib.Core.Path.{◌≡◌, refl, ap, ◌∙◌, sym, subst}
use mathlib.Core.Bool.{Bool, true, false, true≢false}
use mathlib.Core.List.{List, [], ◌++◌, append-nil}
use mathlib.Core.Logic.{⊎_elim}
use native.Mathlib.Omega.{arith}
use lib.ListN.{length, take, drop, length-append, length-drop, take-append-drop}
use lib.Dec.{leb}
use Rattle.std.proofs.lemmas.List.{append_cancel_left}
use borrow.Author.Tests.{le-leb, lt-leb}
use borrow.Rule.Slice.PartMut.{mid_of, put_mid, mid_len}
use Rattle.std.proofs.lemmas.Bool.{cases_lt}
use Rattle.std.specs.Prelude.{Some, None, Result, Ok, Err}
use Rattle.spec_bytes.specs.declared.refusal.Refusal.{Refusal}
use Rattle.spec_bytes.specs.declared.refusal.Refusal.TheVariants.{CeilingPassed}
use Rattle.spec_type_table.specs.declared.types.TypeTable.{TypeTable}
use Rattle.spec_type_table.specs.Cells.{get_field}
use Rattle.spec_type_table.specs.Table.{btf_of}
use Rattle.c_dumper_dependency_order.specs.order_state.Work.{mark_of, table_in}
use Rattle.c_dumper_dependency_order.specs.ways.Idle.{idle_in, counted}
use Rattle.c_dumper_dependency_order.specs.declared.leaders.Leader.{Leader}
use Rattle.c_dumper_dependency_order.specs.leaders.Leaders.{leader_words}
use Rattle.c_dumper_dependency_order.proofs.leaders.Laws.{words_length}
use Rattle.c_dumper_dependency_order.proofs.ways.Laws.{idle_none, idle_one}
use Rattle.spec_session.specs.emission.Slices.{is_idle}
use Rattle.spec_session.specs.metered.Metered.{calls_in}
use Rattle.c_dumper_emit.specs.entries.Traced.{entries_of}
use Rattle.c_dumper_emit.proofs.entries.Laws.{entries_length}
use Rattle.c_dumper_emit.proofs.dump_type.Requests.{idle_request}
use Rattle.spec_session.proofs.metered.Idle.{idle_calls}
use Rattle.spec_session.specs.declared.session.Reached.{Reached}
use Rattle.spec_session.specs.session.Turns.{Reach, refused_by, reach_of, visits_in}
use Rattle.spec_session.proofs.session.Laws.{reach_refused}
use Rattle.spec_session.specs.calls.Calls.{came_to, lent_to, requested}
use Rattle.spec_session.proofs.calls.Laws.{idle_reach}
use Rattle.spec_c_dumper.specs.origins.Causes.{Entry, up_to, entries_in}
use Rattle.spec_c_dumper.specs.origins.Claims.{forget}
use Rattle.spec_session.specs.origin_calls.Bytes.{Reached as Traced, entries_after, came_to_traced, requested_traced}
use Rattle.spec_session.proofs.origins_after.Shift.{behind, requested_shift, idle_traced}
use Rattle.spec_session.specs.metered.Within.{Within, requested_within}
use Rattle.session_requests.proofs.request.Entries.{joined, whole_length, head_stays, put_is}
use Rattle.c_dumper_emit.proofs.dump_type.Leaders.{before_more}
use Rattle.session_requests.specs.declared.options.Options.{Options}
use Rattle.session_requests.specs.declared.options.Options.TheVariants as option
use Rattle.session_requests.specs.options.Options.{is_listed, is_counted, most_calls, ceiling_of}
use Rattle.session_requests.specs.options.Counted.{Progress}
use Rattle.session_requests.specs.options.Requests.{Stage, stage_of, within_of, traced_of, idle_after, fits_under, made_under, Under, Fits, Ready, requested_listed, requested_under, requested_with}

-- ---- the options decide
-- no call has both
pub single : (o : Options) → is_listed o ≡ true → is_counted o ≡ false
single (option.Plain) e = refl
single (option.Within c) e = absurd (true≢false (sym e))
single (option.Listed) e = refl

module _ (o : Options) (more : ℕ → Bool) (b : TypeTable) (s : List ℕ) (id : ℕ) (es : List Entry) (len v : ℕ) (w t : List ℕ) (k : ℕ) where
  pub with_lists : (is_listed o) ≡ true → (is_counted o) ≡ false
      → requested_with o more b s id es len v w t k ≡ record { reach = (requested_traced more b s id es len v w t).reach; entries = (requested_traced more b s id es len v w t).entries; made = k }
  unfolding requested_with requested_under requested_listed fits_under made_under
  with_lists l c = λ i. requested_under more b s (l i) (c i) (most_calls o) id es len v w t k

  pub with_none : (is_listed o) ≡ false → (is_counted o) ≡ false → requested_with o more b s id es len v w t k ≡ record { reach = requested b s id len v w t; entries = es; made = k }
  unfolding requested_with requested_under requested_listed fits_under made_under
  with_none l c = λ i. requested_under more b s (l i) (c i) (most_calls o) id es len v w t k

  pub with_ceiling : (is_listed o) ≡ false → (is_counted o) ≡ true
      → requested_with o more b s id es len v w t k ≡ record { reach = (requested_within (most_calls o) b s id len v w t k).reach; entries = es; made = (requested_within (most_calls o) b s id len v w t k).made }
  unfolding requested_with requested_under requested_listed fits_under made_under requested_within
  with_ceiling l c = (λ i. requested_under more b s (l i) (c i) (most_calls o) id es len v w t k) ∙ go (leb (k + calls_in b s w id) (most_calls o))
    where
      both : Bool → Within
      both q = elim q as (λ _. Within) [ true ↦ record { reach = requested b s id len v w t; made = k + calls_in b s w id } | false ↦ record { reach = refused_by 22 len v (take len t); made = (most_calls o) } ]

      all : Bool → Stage
      all q = elim q as (λ _. Stage) [ true ↦ record { reach = requested b s id len v w t; entries = es; made = k + calls_in b s w id } | false ↦ record { reach = refused_by 22 len v (take len t); entries = es; made = (most_calls o) } ]

      go : (q : Bool) → all q ≡ record { reach = (both q).reach; entries = es; made = (both q).made }
      go true = refl
      go false = refl

-- a request that has nothing to do opens one call, where calls are counted
idle_plain : (o : Options) → is_counted o ≡ false → (k : ℕ) → counted (ceiling_of o) k ≡ Ok k
unfolding counted
idle_plain (option.Plain) e k = refl
idle_plain (option.Within c) e k = absurd (true≢false e)
idle_plain (option.Listed) e k = refl

idle_counted : (o : Options) → is_counted o ≡ true → (k : ℕ) → counted (ceiling_of o) k ≡ idle_in k (most_calls o)
unfolding counted
idle_counted (option.Plain) e k = absurd (true≢false (sym e))
idle_counted (option.Within c) e k = refl
idle_counted (option.Listed) e k = absurd (true≢false (sym e))

-- ---- dump_one
module _ (o : Options) (more : ℕ → Bool) (b : TypeTable) (s : List ℕ) (id len v : ℕ) (w t : List ℕ) (k : ℕ) (w' t' l' : List ℕ) where
  pub one_listed : (is_listed o) ≡ true → (d : Progress) → traced_of d w' t' l' ≡ requested_traced more b s id [] len v w t → d.made ≡ k → stage_of d w' t' l' ≡ requested_with o more b s id [] len v w t k
  unfolding stage_of traced_of
  one_listed l d e m = (λ i. record { reach = (e i).reach; entries = (e i).entries; made = m i }) ∙ sym (with_lists o more b s id [] len v w t k l (single o l))

  pub one_within : (is_listed o) ≡ false → (is_counted o) ≡ true → (d : Progress) → within_of d w' t' ≡ requested_within (most_calls o) b s id len v w t k → d.count ≡ 0 → stage_of d w' t' l' ≡ requested_with o more b s id [] len v w t k
  unfolding stage_of within_of entries_of
  one_within l c d e z = (λ i. record { reach = (e i).reach; entries = entries_of (z i) l'; made = (e i).made }) ∙ sym (with_ceiling o more b s id [] len v w t k l c)

  pub one_plain : (is_listed o) ≡ false → (is_counted o) ≡ false → (r : Reached) → reach_of r w' t' ≡ requested b s id len v w t → stage_of (record { of = r; count = 0; made = k }) w' t' l' ≡ requested_with o more b s id [] len v w t k
  unfolding stage_of entries_of
  one_plain l c r e = (λ i. record { reach = e i; entries = []; made = k }) ∙ sym (with_none o more b s id [] len v w t k l c)

-- the words of as many leaders are as many
pub words_kept : (l l' : List Leader) → length l' ≡ length l → length (leader_words l') ≡ length (leader_words l)
words_kept l l' e = words_length l' ∙ e ∙ sym (words_length l)

-- without a list nothing is asked of the leaders
pub no_words : (o : Options) (turn : ℕ) (leaders : List ℕ) → (is_listed o) ≡ false → Ready o turn leaders
no_words o turn leaders e h = absurd (true≢false (sym h ∙ e))

pub under_same : (o : Options) (k k' : ℕ) → Under o k → k' ≡ k → Under o k'
under_same o k k' u e h = subst (λ (n : ℕ). n ≤ (most_calls o)) (sym e) (u h)

pub none_count : (n m : ℕ) → n ≡ 0 → n ≤ m
none_count n m e = omega arith

-- ---- dump_one, behind the entries of the requests before it
abbrev pub behind_with : List Entry → Stage → Stage
behind_with es r = record { reach = r.reach; entries = es ++ r.entries; made = r.made }

module _ (o : Options) (room : ℕ) (b : TypeTable) (s : List ℕ) (id : ℕ) (es : List Entry) (len v : ℕ) (w t : List ℕ) (k : ℕ) where
  listed_shift : (lists : Bool) → requested_listed (up_to room) b s lists id es len v w t ≡ behind es (requested_listed (up_to (room - length es)) b s lists id [] len v w t)
  unfolding requested_listed
  listed_shift true = requested_shift room b s id es len v w t
  listed_shift false = λ i. record { reach = requested b s id len v w t; entries = sym (append-nil es) i }

  pub with_shift : requested_with o (up_to room) b s id es len v w t k ≡ behind_with es (requested_with o (up_to (room - length es)) b s id [] len v w t k)
  unfolding requested_with requested_under
  with_shift = go (fits_under (is_counted o) (most_calls o) k (calls_in b s w id))
    where
      made : ℕ
      made = made_under (is_counted o) k (calls_in b s w id)

      stage : Traced → Stage
      stage n = record { reach = n.reach; entries = n.entries; made = made_under (is_counted o) k (calls_in b s w id) }

      go : (q : Bool) → (elim q as (λ _. Stage) [ true ↦ stage (requested_listed (up_to room) b s (is_listed o) id es len v w t) | false ↦ record { reach = refused_by 22 len v (take len t); entries = es; made = (most_calls o) } ])
          ≡ behind_with es (elim q as (λ _. Stage) [ true ↦ stage (requested_listed (up_to (room - length es)) b s (is_listed o) id [] len v w t) | false ↦ record { reach = refused_by 22 len v (take len t); entries = []; made = (most_calls o) } ])
      go true = ap stage (listed_shift (is_listed o))
      go false = λ i. record { reach = refused_by 22 len v (take len t); entries = sym (append-nil es) i; made = (most_calls o) }

module _ (o : Options) (b : TypeTable) (s w t l : List ℕ) (len v c id k : ℕ) (h : c ≤ entries_in l) (r : Progress) (w' t' u : List ℕ) (same : length u ≡ length (mid_of (c * 12) (length l - c * 12) l))
    (e : stage_of r w' t' u ≡ requested_with o (up_to (entries_in (mid_of (c * 12) (length l - c * 12) l))) b s id [] len v w t k) (small : r.count ≤ entries_in (mid_of (c * 12) (length l - c * 12) l)) where
  tail_length : length (mid_of (c * 12) (length l - c * 12) l) ≡ length l - c * 12
  tail_length = mid_len (c * 12) (length l) l (omega arith)

  pub after_count : c + r.count ≤ entries_in l
  after_count = omega (arith, tail_length)

  pub after_stage : stage_of (record { of = r.of; count = c + r.count; made = r.made }) w' t' (put_mid (c * 12) (length l - c * 12) l u) ≡ requested_with o (up_to (entries_in l)) b s id (entries_of c l) len v w t k
  unfolding stage_of
  after_stage =
      let es : length (entries_of c l) ≡ c = entries_length c l in
      let m : entries_in (mid_of (c * 12) (length l - c * 12) l) ≡ entries_in l - length (entries_of c l) = omega (arith, tail_length) in
      (λ i. record { reach = reach_of r.of w' t'; entries = joined l u c (omega arith) same r.count (omega (arith, same)) i; made = r.made })
      ∙ ap (behind_with (entries_of c l)) (e ∙ ap (λ (n : ℕ). requested_with o (up_to n) b s id [] len v w t k) m)
      ∙ sym (with_shift o (entries_in l) b s id (entries_of c l) len v w t k)

module _ (o : Options) (b : TypeTable) (s w t l : List ℕ) (p : Progress) (id turn : ℕ) (h : p.count ≤ entries_in l) (w' t' u q' : List ℕ) (same : length u ≡ length (mid_of (p.count * 12) (length l - p.count * 12) l)) where
  abbrev list' : List ℕ
  list' = put_mid (p.count * 12) (length l - p.count * 12) l u

  abbrev Onward : Progress → Type 0
  Onward r = r.of.stop ≡ None → (r.of.visits ≡ visits_in w') × Ready o (turn + 1) q'

  -- what holds of it on what follows them, and on the whole list
  abbrev Alone : Progress → Type 0
  Alone r =
      (stage_of r w' t' u ≡ requested_with o (up_to (entries_in (mid_of (p.count * 12) (length l - p.count * 12) l))) b s id [] p.of.len p.of.visits w t p.made)
      × (r.count ≤ entries_in (mid_of (p.count * 12) (length l - p.count * 12) l)) × (r.of.len ≤ length t') × Under o r.made × Onward r

  abbrev Behind : Progress → Type 0
  Behind r =
      (stage_of r w' t' list' ≡ requested_with o (up_to (entries_in l)) b s id (entries_of p.count l) p.of.len p.of.visits w t p.made)
      × Fits o r t' list' × (take (p.count * 12) list' ≡ take (p.count * 12) l) × Onward r

  pub behind_few : (r : Reached) (n m : ℕ) → Alone (record { of = r; count = n; made = m }) → p.count + n ≤ entries_in l
  behind_few r n m x = after_count o b s w t l p.of.len p.of.visits p.count id p.made h (record { of = r; count = n; made = m }) w' t' u same x.0 x.1

  pub behind_all : (r : Reached) (n m : ℕ) → Alone (record { of = r; count = n; made = m }) → Behind (record { of = r; count = p.count + n; made = m })
  behind_all r n m x = (
    after_stage o b s w t l p.of.len p.of.visits p.count id p.made h (record { of = r; count = n; made = m }) w' t' u same x.0 x.1,
    (x.2, omega (arith, behind_few r n m x, whole_length l u p.count (omega arith) same), x.3),
    head_stays l u p.count (omega arith) same,
    x.4,
  )

  pub behind_none : (r : Reached) (m : ℕ) → Alone (record { of = r; count = 0; made = m }) → Behind (record { of = r; count = p.count; made = m })
  behind_none r m x = let z : p.count + 0 ≡ p.count = omega arith in subst (λ (n : ℕ). Behind (record { of = r; count = n; made = m })) z (behind_all r 0 m x)

-- ---- dump_ids
-- a request behind c entries, which stay, as a request on what follows them
module _ (o : Options) (b : TypeTable) (s w t l : List ℕ) (len v c id k : ℕ) (h : c ≤ entries_in l) (r : Progress) (w' t' l' : List ℕ) (ll : length l' ≡ length l) (stays : take (c * 12) l' ≡ take (c * 12) l)
    (e : stage_of r w' t' l' ≡ requested_with o (up_to (entries_in l)) b s id (entries_of c l) len v w t k) (small : r.count ≤ entries_in l') where
  abbrev rest : List ℕ
  rest = drop (c * 12) l'

  abbrev part : Progress
  part = record { of = r.of; count = r.count - c; made = r.made }

  abbrev room : List ℕ
  room = mid_of (c * 12) (length l - c * 12) l

  rest_length : length rest ≡ length l - c * 12
  rest_length = length-drop (c * 12) l' ∙ ap (λ (n : ℕ). n - c * 12) ll

  room_length : length room ≡ length l - c * 12
  room_length = mid_len (c * 12) (length l) l (omega arith)

  pub part_same : length rest ≡ length room
  part_same = rest_length ∙ sym room_length

  pub part_put : put_mid (c * 12) (length l - c * 12) l rest ≡ l'
  part_put = put_is l c (omega arith) rest ∙ ap (λ (x : List ℕ). x ++ rest) (sym stays) ∙ take-append-drop (c * 12) l'

  abbrev alone : Stage
  alone = requested_with o (up_to (entries_in l - length (entries_of c l))) b s id [] len v w t k

  moved : stage_of r w' t' l' ≡ behind_with (entries_of c l) alone
  moved = e ∙ with_shift o (entries_in l) b s id (entries_of c l) len v w t k

  all_entries : entries_of r.count l' ≡ entries_of c l ++ alone.entries
  unfolding stage_of
  all_entries = ap (λ (x : Stage). x.entries) moved

  count_sum : r.count ≡ c + length alone.entries
  count_sum = sym (entries_length r.count l') ∙ ap length all_entries ∙ length-append (entries_of c l) alone.entries ∙ ap (λ (n : ℕ). n + length alone.entries) (entries_length c l)

  pub part_count : c + part.count ≡ r.count
  part_count = omega (arith, count_sum)

  pub part_few : part.count ≤ entries_in room
  part_few = omega (arith, count_sum, room_length, ll, small)

  its_entries : entries_of part.count rest ≡ alone.entries
  its_entries = append_cancel_left (entries_of c l) (entries_of part.count rest) alone.entries
      (sym (joined l rest c (omega arith) part_same part.count (omega (arith, rest_length, count_sum, ll, small))) ∙ (λ i. entries_of (part_count i) (part_put i)) ∙ all_entries)

  pub part_stage : stage_of part w' t' rest ≡ requested_with o (up_to (entries_in room)) b s id [] len v w t k
  unfolding stage_of
  part_stage =
      let m : entries_in l - length (entries_of c l) ≡ entries_in room = omega (arith, room_length, entries_length c l) in
      (λ i. record { reach = (moved i).reach; entries = its_entries i; made = (moved i).made })
      ∙ ap (λ (n : ℕ). requested_with o (up_to n) b s id [] len v w t k) m

-- ---- dump_next
-- the visits as the code has them
pub read_before : (o : Options) (room : ℕ) (b : TypeTable) (s w t : List ℕ) (es : List Entry) (len id v k : ℕ) (q : Stage) → q ≡ requested_with o (up_to room) b s id es len v w t k → v ≡ visits_in w → q ≡ requested_with o (up_to room) b s id es len (visits_in w) w t k
read_before o room b s w t es len id v k q e h = e ∙ ap (λ (u : ℕ). requested_with o (up_to room) b s id es len u w t k) h

-- an id with nothing to write
module _ (o : Options) (b : TypeTable) (s w t l : List ℕ) (room : ℕ) (p : Progress) (id : ℕ) (short : p.of.len ≤ length t) (small : Under o p.made) (q : Bool) (e : q ≡ is_idle (mark_of (get_field w id 1)) ((table_in b s w).node id)) (z : q ≡ true) where
  abbrev len : ℕ
  len = p.of.len

  abbrev v : ℕ
  v = p.of.visits

  abbrev k : ℕ
  k = p.made

  abbrev es : List Entry
  es = entries_of p.count l

  abbrev c₀ : ℕ
  c₀ = (most_calls o)

  idle : is_idle (mark_of (get_field w id 1)) ((table_in b s w).node id) ≡ true
  idle = sym e ∙ z

  one_call : calls_in b s w id ≡ 1
  one_call = idle_calls b s w id idle

  nothing : (lists : Bool) → record { reach = reach_of (record { len = len; stop = None; visits = v }) w t; entries = es } ≡ requested_listed (up_to room) b s lists id es len v w t
  unfolding requested_listed requested_traced came_to_traced forget entries_after requested
  nothing true =
      ap (λ (x : Reach). record { reach = x; entries = es }) ((idle_reach b s w t len v v id short q e z).0 ∙ ap (came_to len v t) (idle_request b (btf_of b s w) 0 (lent_to len t) w id idle))
      ∙ sym (ap (came_to_traced len v t es) (idle_traced b s w (lent_to len t) id (up_to room) es idle))
  nothing false = ap (λ (x : Reach). record { reach = x; entries = es }) (idle_reach b s w t len v v id short q e z).0

  abbrev Next : Progress → Type 0
  Next r = (stage_of r w t l ≡ requested_with o (up_to room) b s id es len v w t k) × (r.count ≡ p.count) × (r.of.len ≡ len) × Under o r.made × (r.of.visits ≡ v)

  -- after k calls, and after a refusal
  abbrev going : ℕ → Progress
  going k' = record { of = record { len = len; stop = None; visits = v }; count = p.count; made = k' }

  abbrev stopped : Refusal → Progress
  stopped c = record { of = record { len = len; stop = Some c; visits = v }; count = p.count; made = k }

  next_plain : (is_counted o) ≡ false → Next (going k)
  unfolding stage_of requested_with requested_under fits_under made_under
  next_plain f = (
    (λ i. record { reach = (nothing (is_listed o) i).reach; entries = (nothing (is_listed o) i).entries; made = k }) ∙ sym (λ i. requested_under (up_to room) b s (is_listed o) (f i) c₀ id es len v w t k),
    refl,
    refl,
    small,
    refl,
  )

  module _ (f : (is_counted o) ≡ true) where
    set_is : (n : ℕ) → calls_in b s w id ≡ n → (y : Bool) → leb (k + n) c₀ ≡ y
        → requested_with o (up_to room) b s id es len v w t k ≡ (elim y as (λ _. Stage) [ true ↦ record { reach = (requested_listed (up_to room) b s (is_listed o) id es len v w t).reach; entries = (requested_listed (up_to room) b s (is_listed o) id es len v w t).entries; made = k + n } | false ↦ record { reach = refused_by 22 len v (take len t); entries = es; made = c₀ } ])
    unfolding requested_with requested_under fits_under made_under
    set_is n en y ey =
        (λ i. requested_under (up_to room) b s (is_listed o) (f i) c₀ id es len v w t k)
        ∙ (λ i. elim (leb (k + en i) c₀) as (λ _. Stage) [ true ↦ record { reach = (requested_listed (up_to room) b s (is_listed o) id es len v w t).reach; entries = (requested_listed (up_to room) b s (is_listed o) id es len v w t).entries; made = k + en i } | false ↦ record { reach = refused_by 22 len v (take len t); entries = es; made = c₀ } ])
        ∙ (λ i. elim (ey i) as (λ _. Stage) [ true ↦ record { reach = (requested_listed (up_to room) b s (is_listed o) id es len v w t).reach; entries = (requested_listed (up_to room) b s (is_listed o) id es len v w t).entries; made = k + n } | false ↦ record { reach = refused_by 22 len v (take len t); entries = es; made = c₀ } ])

    next_none : c₀ ≤ k → Next (stopped CeilingPassed)
    unfolding stage_of
    next_none h =
        let ek : k ≡ c₀ = omega (arith, small f) in (
          (λ i. record { reach = reach_refused (record { len = len; stop = Some CeilingPassed; visits = v }) w t CeilingPassed refl i; entries = es; made = ek i })
              ∙ sym (set_is 1 one_call false (lt-leb (k + 1) c₀ (omega arith))),
          refl,
          refl,
          small,
          refl,
        )

    next_more : k < c₀ → Next (going (k + 1))
    unfolding stage_of
    next_more h = (
      (λ i. record { reach = (nothing (is_listed o) i).reach; entries = (nothing (is_listed o) i).entries; made = k + 1 }) ∙ sym (set_is 1 one_call true (le-leb (k + 1) c₀ (omega arith))),
      refl,
      refl,
      λ _. omega arith,
      refl,
    )

  pub next_idle : (r : Progress) → r ≡ idle_after p o → Next r
  unfolding idle_after
  next_idle r er = subst Next (sym er) (by (is_counted o) refl)
    where
      ways : Result ℕ Refusal → Progress
      ways x = elim x as (λ _. Progress) [ Ok k' ↦ going k' | Err c ↦ stopped c ]

      by : (x : Bool) → (is_counted o) ≡ x → Next (ways (counted (ceiling_of o) k))
      by false f = subst (λ (x : Result ℕ Refusal). Next (ways x)) (sym (idle_plain o f k)) (next_plain f)
      by true f = ⊎_elim
          (λ h. subst (λ (x : Result ℕ Refusal). Next (ways x)) (idle_one k c₀ h ∙ sym (idle_counted o f k)) (next_more f h))
          (λ h. subst (λ (x : Result ℕ Refusal). Next (ways x)) (idle_none k c₀ h ∙ sym (idle_counted o f k)) (next_none f h))
          (cases_lt k c₀)

-- what is ready for one turn is so for the next, where nothing was noted
pub ready_more : (o : Options) (turn : ℕ) (leaders : List ℕ) → Ready o turn leaders → Ready o (turn + 1) leaders
ready_more o turn leaders h l = ((h l).0, before_more turn leaders (h l).1)

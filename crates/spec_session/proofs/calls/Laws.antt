-- A law for each return of the calls but the list's. Assumes nothing.
use Prim.Native.Nat.{ℕ, zero-le, ◌+◌, ◌-◌, ◌%◌, ◌<◌, ◌≤◌}
use mathlib.Core.Path.{◌≡◌, refl, ap, ◌∙◌, sym, subst}
use mathlib.Core.Bool.{Bool, true, false, true≢false}
use mathlib.Core.List.{List, ◌++◌, append_assoc}
use mathlib.Core.Logic.{⊎_elim}
use native.Mathlib.Omega.{arith}
use lib.ListN.{length, take, drop, replicate}
use lib.Dec.{eqb}
use lib.Seq.{length-take-le, take_at, drop-drop}
use borrow.Author.Tests.{le-leb, lt-leb}
use borrow.Rule.Slice.PartMut.{mid_of, post_of, put_mid, mid_len, same_len_mid, put_same}
use Rattle.std.proofs.lemmas.Bool.{cases_lt}
use Rattle.std.specs.Prelude.{Some, None, Result, Ok, Err}
use Rattle.spec_bytes.specs.Refusals.{refusal_number}
use Rattle.spec_bytes.specs.declared.refusal.Refusal.{Refusal}
use Rattle.spec_bytes.specs.text.Placed.{place}
use Rattle.spec_c_dumper.specs.rules.Order.{Node, ignored, plain, listed, through, ptr, tdef, proto, comp, Mark, new, busy, done, Res, fresh, visit, order}
use Rattle.spec_c_dumper.specs.rules.Machine.{Out, wrote, stuck, obind, eeach}
use Rattle.spec_c_dumper.specs.rules.Types.{table_of}
use Rattle.spec_type_table.specs.declared.types.TypeTable.{TypeTable}
use Rattle.spec_type_table.specs.Cells.{get_field}
use Rattle.spec_type_table.specs.Table.{btf_of, from}
use Rattle.c_dumper_dependency_order.specs.order_state.Work.{mark_of, work_store, table_in}
use Rattle.btf_open_causes.specs.declared.records.Counts.{Counts}
use Rattle.spec_opening.specs.Causes.{opening_number}
use Rattle.spec_opening.specs.Table.{types_of, enumerators_of}
use Rattle.spec_opening.specs.Opened.{refused, opened, open_out, opening_of, work_of}
use Rattle.spec_session.specs.emission.Slices.{Slices, slices_store, emptied, emit_out, work_machine, is_ignored, is_idle}
use Rattle.spec_c_dumper.specs.rules.Request.{listed_out, dumped}
use Rattle.spec_session.specs.session.Answers.{Accepted, answer_is, answer_of}
use Rattle.spec_session.specs.declared.session.Session.{Session}
use Rattle.spec_session.specs.declared.session.Turn.{Turn}
use Rattle.spec_session.specs.declared.session.Reached.{Reached}
use Rattle.spec_session.specs.session.Turns.{call_of, refused_turn, reached, refused_by, reach_of}
use Rattle.spec_session.specs.calls.Calls.{opened_call, open_call, limit_of, arrived_at, came_to, lent_to, requested}
use Rattle.spec_session.proofs.emission.Laws.{goes as at_place, halts}
use Rattle.spec_session.proofs.session.Laws.{refused_is, reach_accepted, reach_refused}
use Rattle.spec_session.proofs.calls.Fair.{Listed, Fair, goes, stops, Inside, fair_request}

-- ---- limit
module _ (n len : ℕ) where
  pub limit_short : n ≤ 1073741824 → limit_of n len ≡ n
  unfolding limit_of
  limit_short h = rw (le-leb n 1073741824 h, limit_of)

  pub limit_long : 1073741824 < n → len ≤ 1073741824 → limit_of n len ≡ 1073741824
  unfolding limit_of
  limit_long h k = rw (lt-leb n 1073741824 h, limit_of, le-leb len 1073741824 k)

  pub limit_none : 1073741824 < n → 1073741824 < len → limit_of n len ≡ len
  unfolding limit_of
  limit_none h k = rw (lt-leb n 1073741824 h, limit_of, lt-leb len 1073741824 k)

  -- between the two
  pub limit_between : len ≤ n → (len ≤ limit_of n len) × (limit_of n len ≤ n)
  limit_between h =
      ⊎_elim
      (λ l. ⊎_elim (λ k. (omega (arith, limit_none l k), omega (arith, limit_none l k))) (λ k. (omega (arith, limit_long l k), omega (arith, limit_long l k))) (cases_lt 1073741824 len))
      (λ l. (omega (arith, limit_short l), omega (arith, limit_short l)))
      (cases_lt 1073741824 n)

-- ---- arrived
module _ (len v : ℕ) where
  pub arrived_in_lem : (at : ℕ) → arrived_at len v (Ok at) ≡ record { len = len + at; stop = None; visits = v }
  unfolding arrived_at
  arrived_in_lem at = refl

  pub arrived_past : (c : Refusal) → arrived_at len v (Err c) ≡ record { len = len; stop = Some c; visits = v }
  unfolding arrived_at
  arrived_past c = refl

-- ---- open_core
module _ (p modes : ℕ) (s w t : List ℕ) where
  pub opens_refused : eqb (opening_number p s (length w)) 0 ≡ false → opening_of p modes s w t ≡ refused (opening_number p s (length w)) w t
  unfolding opening_of
  opens_refused e = rw (e, opening_of)

  pub opens_sound : eqb (opening_number p s (length w)) 0 ≡ true → opening_of p modes s w t ≡ opened (types_of s) (enumerators_of s) (work_of p modes s (length w)) (replicate (length t) 0)
  unfolding opening_of
  opens_sound e = rw (e, opening_of)

  module _ (o : Result Counts Refusal) (w' t' : List ℕ) (eo : open_out o w' t' ≡ opening_of p modes s w t) where
    pub open_refused : (c : Refusal) → o ≡ Err c → (r : Session) (turn : Turn) → turn ≡ refused_turn r c 0 → call_of turn.session (answer_is turn.answer) w' t' ≡ open_call r s w t p modes
    unfolding open_out call_of open_call opened_call
    open_refused c e r turn et =
        (λ i. record { session = (et i).session; answer = (ap (λ (z : Turn). answer_is z.answer) et ∙ refused_is c 0) i; work = w'; text = t' })
        ∙ ap (opened_call r (length s) (length w) p modes) (sym (ap (λ (q : Result Counts Refusal). open_out q w' t') e) ∙ eo)

    pub open_sound : (n : Counts) → o ≡ Ok n → (r : Session)
        → call_of (record { «open» = true; section_len = length s; work_len = length w; types = n.types; enumerators = n.enumerators; text_len = 0; pointer_size = p; modes = modes % 16; visits = 0 }) (Accepted n.types) w' t' ≡ open_call r s w t p modes
    unfolding open_out call_of open_call opened_call answer_of
    open_sound n e r = ap (opened_call r (length s) (length w) p modes) (sym (ap (λ (q : Result Counts Refusal). open_out q w' t') e) ∙ eo)

-- ---- one request
abbrev slices_or : Out Slices (Unit {0}) → Slices → Slices
slices_or (wrote m) d = m
slices_or (stuck h c) d = d

pub stuck_listed : (k : ℕ) (o : Out Slices (Unit {0})) → Fair (Inside k) o → {h : Unit {0}} (c : ℕ) → o ≡ stuck h c → Listed c
stuck_listed k _ (goes m g) c e = let z : ◌≡◌ {A = ℕ} 0 1 = cc in absurd (omega arith)
stuck_listed k _ (stops d l) c e = let q : d ≡ c = cc in (omega arith, omega arith)

wrote_inside : (k : ℕ) (o : Out Slices (Unit {0})) → Fair (Inside k) o → (m : Slices) → o ≡ wrote m → Inside k m
wrote_inside k _ (goes m g) n e = let q : m ≡ n = ap (λ (o : Out Slices (Unit {0})). slices_or o m) e in subst (Inside k) q g
wrote_inside k _ (stops d l) n e = let z : ◌≡◌ {A = ℕ} 0 1 = cc in absurd (omega arith)

pub mid_place : (t u : List ℕ) (len k : ℕ) → length u ≡ k → put_mid len k t u ≡ place t len u
mid_place t u len k e =
    ap (λ (l : List ℕ). take len t ++ (u ++ l)) (drop-drop k len t ∙ ap (λ (z : ℕ). drop (len + z) t) (sym e))
    ∙ sym (append_assoc (take len t) u (drop (len + length u) t))

module _ (b : TypeTable) (s w : List ℕ) (id : ℕ) where
  -- the request on a slice
  abbrev pub asked : List ℕ → Out Slices (Unit {0})
  asked u = dumped (work_machine b (btf_of b s w)) (table_of (btf_of b s w)) (record { work = w; text = u; at = 0; len = 0 }) id

  pub fair_asked : (u : List ℕ) → Fair (Inside (length u)) (asked u)
  fair_asked u = fair_request b (btf_of b s w) (length u) (record { work = w; text = u; at = 0; len = 0 }) id (zero-le, refl)

-- a place is inside the slice
pub one_inside : (b : TypeTable) (s w u : List ℕ) (id at : ℕ) (u' w' : List ℕ) → emit_out 0 (Ok at) u' w' ≡ asked b s w id u → at ≤ length u
one_inside b s w u id at u' w' e =
    let h = wrote_inside (length u) (asked b s w id u) (fair_asked b s w id u) (record { work = w'; text = u'; at = at; len = 0 }) (sym e ∙ at_place 0 at u' w') in
    omega (arith, h.0, h.1)

-- what the code's end of a request says, with the slice back in its text
module _ (t u w' : List ℕ) (len to : ℕ) (below : len ≤ to) (ends : to ≤ length t) (same : length u ≡ length (mid_of len (to - len) t)) (r : Reached) where
  abbrev after : List ℕ
  after = put_mid len (to - len) t u

  whole_length : length after ≡ length t
  whole_length = same_len_mid len (to - len) t u same

  -- which visits it has does not matter
  module _ (at x : ℕ) (er : r ≡ arrived_at len x (Ok at)) where
    pub end_accepted : (v : ℕ) → reach_of r w' after ≡ came_to len v t (emit_out 0 (Ok at) u w')
    unfolding came_to
    end_accepted v =
        let q : r ≡ record { len = len + at; stop = None; visits = x } = er ∙ arrived_in_lem len x at in
        reach_accepted r w' after (ap (λ (y : Reached). y.stop) q)
        ∙ (λ i. reached (q i).len w' (mid_place t u len (to - len) (same ∙ mid_len len to t ends) i))
        ∙ ap (came_to len v t) (sym (at_place 0 at u w'))

    pub accepted_fits : at ≤ to - len → r.len ≤ length after
    accepted_fits h = omega (arith, ap (λ (y : Reached). y.len) (er ∙ arrived_in_lem len x at), whole_length)

  module _ (c : Refusal) (v : ℕ) (er : r ≡ arrived_at len v (Err c)) where
    stopped_is : r ≡ record { len = len; stop = Some c; visits = v }
    stopped_is = er ∙ arrived_past len v c

    kept_prefix : take len after ≡ take len t
    kept_prefix = take_at (take len t) (u ++ post_of len (to - len) t) len (length-take-le len t (omega arith))

    pub end_refused : reach_of r w' after ≡ came_to len v t (emit_out 0 (Err c) u w')
    unfolding came_to
    end_refused =
        let l : r.len ≡ len = ap (λ (y : Reached). y.len) stopped_is in
        reach_refused r w' after c (ap (λ (y : Reached). y.stop) stopped_is)
        ∙ (λ i. refused_by (refusal_number c) (l i) (stopped_is i).visits (take (l i) after))
        ∙ ap (refused_by (refusal_number c) len v) kept_prefix
        ∙ ap (came_to len v t) (sym (halts 0 c u w'))

    pub refused_fits : r.len ≤ length after
    refused_fits = omega (arith, ap (λ (y : Reached). y.len) stopped_is, whole_length)

-- a request on the slice that it is lent
pub lent_is : (b : TypeTable) (s w t : List ℕ) (len id to v : ℕ) → to ≡ limit_of (length t) len → came_to len v t (asked b s w id (mid_of len (to - len) t)) ≡ requested b s id len v w t
unfolding requested
lent_is b s w t len id to v el = ap (λ (z : ℕ). came_to len v t (asked b s w id (take (z - len) (drop len t)))) el

-- ---- an id with nothing to write
module _ (b : TypeTable) (s w u : List ℕ) (id : ℕ) where
  abbrev start : Slices
  start = record { work = w; text = u; at = 0; len = 0 }

  abbrev way : Slices → ℕ → Bool → Res Slices
  way m y weak = order slices_store 511 (table_in b s w) m y weak

  idle_fresh : (nd : Node) → is_ignored nd ≡ true → listed_out (work_machine b (btf_of b s w)) (table_in b s w) tt (fresh slices_store (table_in b s w) way start id false nd) ≡ wrote start
  unfolding is_ignored fresh listed_out obind eeach work_machine slices_store work_store emptied from
  idle_fresh ignored h = refl
  idle_fresh plain h = absurd (true≢false (sym h))
  idle_fresh (listed f) h = absurd (true≢false (sym h))
  idle_fresh (through a t) h = absurd (true≢false (sym h))
  idle_fresh (ptr t) h = absurd (true≢false (sym h))
  idle_fresh (tdef t) h = absurd (true≢false (sym h))
  idle_fresh (proto ts) h = absurd (true≢false (sym h))
  idle_fresh (comp ms) h = absurd (true≢false (sym h))

  idle_visit : (k : Mark) → is_idle k ((table_in b s w).node id) ≡ true → listed_out (work_machine b (btf_of b s w)) (table_in b s w) tt (visit slices_store (table_in b s w) way start id false k) ≡ wrote start
  unfolding is_idle visit listed_out obind eeach work_machine slices_store work_store emptied from
  idle_visit new h = idle_fresh ((table_in b s w).node id) h
  idle_visit busy h = absurd (true≢false (sym h))
  idle_visit done h = refl

  idle_dumped : is_idle (mark_of (get_field w id 1)) ((table_in b s w).node id) ≡ true → asked b s w id u ≡ wrote start
  unfolding dumped order work_machine slices_store work_store
  idle_dumped h = idle_visit (mark_of (get_field w id 1)) h

pub idle_reach : (b : TypeTable) (s w t : List ℕ) (len u v id : ℕ) → len ≤ length t → (q : Bool) → q ≡ is_idle (mark_of (get_field w id 1)) ((table_in b s w).node id) → q ≡ true
    → (reach_of (record { len = len; stop = None; visits = u }) w t ≡ requested b s id len v w t) × (len ≤ length t)
unfolding requested came_to
idle_reach b s w t len u v id h q e z =
    let lim : (len ≤ limit_of (length t) len) × (limit_of (length t) len ≤ length t) = limit_between (length t) len h in
    let size : length (lent_to len t) ≡ limit_of (length t) len - len = mid_len len (limit_of (length t) len) t lim.1 in
    let back : t ≡ place t len (lent_to len t) = sym (put_same len (limit_of (length t) len - len) t) ∙ mid_place t (lent_to len t) len (limit_of (length t) len - len) size in
    let none : len ≡ len + 0 = omega arith in (
      reach_accepted (record { len = len; stop = None; visits = u }) w t refl
          ∙ (λ i. reached (none i) w (back i))
          ∙ ap (came_to len v t) (sym (idle_dumped b s w (lent_to len t) id (sym e ∙ z))),
      h,
    )

-- "The request for all ids [..] is then the single requests from 1 upward": it comes to what the calls for one id come to, each lent the
-- record, the work and the text that the one before it left, to the first that is refused. Assumes nothing.
use Prim.Native.Nat.{ℕ, zero, suc, zero-le, ◌+◌, ◌-◌, ◌*◌, ◌<◌, ◌≤◌}
use mathlib.Core.Path.{◌≡◌, refl, ap, ◌∙◌, sym, subst}
use mathlib.Core.Bool.{Bool, true, false, ◌&&◌, true≢false}
use mathlib.Core.List.{List, ◌++◌, append_assoc}
use native.Mathlib.Omega.{arith}
use native.Mathlib.Nat.{le_refl}
use lib.ListN.{length, take, drop, replicate}
use lib.Dec.{eqb, leb, ltb}
use lib.Seq.{take-append-le, take-append-add, length-take-le}
use borrow.Author.Tests.{le-leb, eq-eqb, eqb-true, ltb-false}
use borrow.Rule.Slice.PartMut.{mid_len}
use Rattle.spec_bytes.specs.words.Words.{get_word}
use Rattle.spec_bytes.specs.text.Placed.{Out as TextOut, done as written_to, stopped, place}
use Rattle.spec_bytes.proofs.words.Laws.{put_length}
use Rattle.spec_bytes.proofs.text.TextLaws.{place_length}
use Rattle.spec_c_dumper.specs.rules.Machine.{Out}
use Rattle.spec_c_dumper.specs.rules.Types.{Btf as Rules, table_of}
use Rattle.spec_c_dumper.specs.rules.Writer.{said_names, Writer}
use Rattle.spec_c_dumper.specs.rules.Place.{with_names, none_held}
use Rattle.spec_c_dumper.specs.alignment_once.Writers.{definition_once, forward_once}
use Rattle.btf_layout.specs.asked.Asked.{work_asks}
use Rattle.btf_layout.proofs.refusals.InWork.{definition_keeps, forward_keeps, definition_tells, forward_tells}
use Rattle.spec_c_dumper.proofs.rules.Closed.{Code}
use Rattle.spec_c_dumper.proofs.rules.Keeps.{Keeps}
use Rattle.spec_c_dumper.proofs.rules.Refusals.{Tells}
use Rattle.spec_type_table.specs.declared.types.TypeTable.{TypeTable}
use Rattle.spec_type_table.specs.Cells.{get_field, class_p, count_p, count_raised}
use Rattle.spec_type_table.specs.Numbers.{number_at}
use Rattle.spec_type_table.specs.Table.{btf_of, type_version_in, enumerator_of, value_version_in, work_naming}
use Rattle.spec_type_table.proofs.Frame.{more_length}
use Rattle.c_dumper_dependency_order.specs.order_state.Work.{work_store}
use Rattle.spec_session.proofs.emission.Laws.{line_is}
use Rattle.spec_session.specs.emission.Slices.{Slices, slices_store, slices_of, line_in, work_machine}
use Rattle.spec_c_dumper.specs.rules.Request.{dumped}
use Rattle.btf_open_causes.specs.header.Header.{btf_of as settings_of}
use Rattle.spec_session.specs.declared.session.Session.{Session}
use Rattle.spec_session.specs.session.Answers.{number_of, answer_of}
use Rattle.spec_session.specs.session.Turns.{Call, is_current, Reach, reached, refused_by, with_text, then_zeros, settled, table_for, visits_in}
use Rattle.spec_session.specs.calls.Calls.{limit_of, came_to, lent_to, requested, onward, requested_from, type_call, types_call}
use Rattle.spec_session.proofs.calls.Fair.{Listed, Fair, goes, stops, Fairly, fair_dumped, Inside, fair_line}
use Rattle.spec_session.proofs.calls.Laws.{limit_between}
use Rattle.spec_session.proofs.session.Laws.{current_fits}
use Rattle.spec_session.proofs.calls.Claims.{number_is, zeros_length, zeros_head, type_settles, types_settle}
use Rattle.spec_session.proofs.calls.Tails.{Both, goes as go_both, stops as stop_both, Like, like, both_request}
use Rattle.spec_session.proofs.emission.Lawful.{emptied_length}

-- ---- the work keeps its length
counted_length : (types h : ℕ) (w : List ℕ) → length (count_raised (class_p types) (count_p types) w h) ≡ length w
unfolding count_raised
counted_length types h w = more_length w (count_p types (get_word w (class_p types h)))

type_length : (types id : ℕ) (w : List ℕ) → length (type_version_in types id w).names ≡ length w
unfolding type_version_in
type_length types id w = go (eqb (get_field w id 4) 0) refl
  where
    go : (q : Bool) → eqb (get_field w id 4) 0 ≡ q → length (type_version_in types id w).names ≡ length w
    go true e = rw (e, type_version_in) (put_length (count_raised (class_p types) (count_p types) w id) (id * 16 + 4) (number_at types w id) ∙ counted_length types id w)
    go false e = rw (e, type_version_in)

value_length : (types e : ℕ) (w : List ℕ) → length (value_version_in types e w).names ≡ length w
unfolding value_version_in
value_length types e w = go (ltb (types + e) 4294967296) refl
  where
    go : (q : Bool) → ltb (types + e) 4294967296 ≡ q → length (value_version_in types e w).names ≡ length w
    go true h = rw (h, value_version_in) (counted_length types (types + e) w)
    go false h = rw (h, value_version_in)

abbrev Sized : ℕ → ℕ → Slices → Type 0
Sized k j m = (m.at ≤ length m.text) × (length m.text ≡ k) × (length m.work ≡ j)

sized_out : (k j n : ℕ) (u : List ℕ) → length u ≡ j → (o : TextOut) → Fair (Inside k) (slices_of n (with_names none_held u o)) → Fair (Sized k j) (slices_of n (with_names none_held u o))
unfolding slices_of with_names
sized_out k j n u e (written_to t at) (goes _ g) = goes _ (g.0, g.1, e)
sized_out k j n u e (stopped c) (stops _ l) = stops c l

sized_line : (k j : ℕ) (v : Writer (List ℕ)) → Tells Code v → Keeps (λ (u : List ℕ). length u) v → (m : Slices) → Sized k j m → Fair (Sized k j) (line_in v m)
sized_line k j v h keeps m g =
    subst (Fair (Sized k j)) (sym (line_is v m))
    (sized_out k j m.len (said_names (v m.work)) ((keeps m.work).0 ∙ g.2) _ (subst (Fair (Inside k)) (line_is v m) (fair_line k v h m (g.0, g.1))))

module _ (b : TypeTable) (B : Rules) where
  keeps_def : (x : ℕ) → Keeps (λ (u : List ℕ). length u) (definition_once (work_asks b.types B) (work_naming b) B x (B.type_by_id x))
  unfolding work_naming
  keeps_def x = definition_keeps (λ (u : List ℕ). length u) (λ w v. put_length w (0 * 16 + 2) v) (λ w x v. put_length w (x * 16 + 15) v) b B (λ space id name w. type_length b.types id w) (λ id i name w. value_length b.types (enumerator_of w id i) w) x (B.type_by_id x)

  keeps_fwd : (x : ℕ) → Keeps (λ (u : List ℕ). length u) (forward_once (work_asks b.types B) (work_naming b) B x (B.type_by_id x))
  unfolding work_naming
  keeps_fwd x = forward_keeps (λ (u : List ℕ). length u) (λ w v. put_length w (0 * 16 + 2) v) (λ w x v. put_length w (x * 16 + 15) v) b B (λ space id name w. type_length b.types id w) (λ id i name w. value_length b.types (enumerator_of w id i) w) x (B.type_by_id x)

  sized : (k j : ℕ) → Fairly (Sized k j) (work_machine b B)
  unfolding work_machine slices_store work_store
  sized k j = record {
    mark_good = λ s x m g. (g.0, g.1, put_length m.work (x * 16 + 1) _ ∙ g.2);
    push_good = λ x m g. (g.0, g.1, put_length m.work (m.len * 16 + 11) x ∙ g.2);
    start_good = λ room m g. (g.0, g.1, emptied_length m.len m.work ∙ g.2);
    emark_good = λ s x m g. (g.0, g.1, put_length m.work _ _ ∙ g.2);
    forwarded_good = λ x m g. (g.0, g.1, put_length m.work (x * 16 + 3) 1 ∙ g.2);
    fwd_fair = λ m x g. sized_line k j _ (forward_tells b B x (B.type_by_id x)) (keeps_fwd x) m g;
    alias_fair = λ m x g. sized_line k j _ (forward_tells b B x (B.type_by_id x)) (keeps_fwd x) m g;
    leaf_fair = λ m x g. sized_line k j _ (definition_tells b B x (B.type_by_id x)) (keeps_def x) m g;
    body_fair = λ m x g. sized_line k j _ (definition_tells b B x (B.type_by_id x)) (keeps_def x) m g;
  }

  -- a request leaves text and work as long as they were
  pub sized_request : (w u : List ℕ) (x : ℕ) → Fair (Sized (length u) (length w)) (dumped (work_machine b B) (table_of B) (record { work = w; text = u; at = 0; len = 0 }) x)
  sized_request w u x = fair_dumped (Sized (length u) (length w)) (work_machine b B) (table_of B) (sized (length u) (length w)) (record { work = w; text = u; at = 0; len = 0 }) x (zero-le, refl, refl)

-- ---- one request on two texts that agree up to len
pub data Pair (wn tn : ℕ) : Reach → Reach → Type 0 where
  on_both : (len : ℕ) (w t t' : List ℕ) → len ≤ tn → length w ≡ wn → length t ≡ tn → take len t ≡ take len t' → Pair wn tn (reached len w t) (reached len w t')
  off_both : (c len v : ℕ) (t : List ℕ) → Listed c → Pair wn tn (refused_by c len v t) (refused_by c len v t)

placed_take : (t u : List ℕ) (len at : ℕ) → len ≤ length t → at ≤ length u → take (len + at) (place t len u) ≡ take len t ++ take at u
placed_take t u len at h k =
    let size : length (take len t) ≡ len = length-take-le len t h in
    ap (λ (n : ℕ). take (n + at) (place t len u)) (sym size)
    ∙ ap (take (length (take len t) + at)) (append_assoc (take len t) u (drop (len + length u) t))
    ∙ take-append-add (take len t) (u ++ drop (len + length u) t) at
    ∙ ap (λ (l : List ℕ). take len t ++ l) (take-append-le at u (drop (len + length u) t) k)

module _ (wn tn len : ℕ) (t t' : List ℕ) (lt : length t ≡ tn) (lt' : length t' ≡ tn) (high : len ≤ tn) (same : take len t ≡ take len t') where
  came_pair : (v k : ℕ) → len + k ≤ tn → (o o' : Out Slices (Unit {0})) → Both Like o o' → Fair (Sized k wn) o → Pair wn tn (came_to len v t o) (came_to len v t' o')
  unfolding came_to
  came_pair v k fits _ _ (go_both _ _ (like w u u' at ln h long eq)) (goes _ g) =
      let room : len + length u ≤ length t = omega (arith, g.1) in
      on_both (len + at) w (place t len u) (place t' len u') (omega (arith, g.0, g.1)) g.2 (place_length t len u room ∙ lt)
      (placed_take t u len at (omega arith) h ∙ (λ i. same i ++ eq i) ∙ sym (placed_take t' u' len at (omega arith) (omega arith)))
  came_pair v k fits _ _ (stop_both c) (stops _ l) = subst (λ (p : List ℕ). Pair wn tn (refused_by c len v (take len t)) (refused_by c len v p)) same (off_both c len v (take len t) l)

  pub request_pair : (b : TypeTable) (s : List ℕ) (id v : ℕ) (w : List ℕ) → length w ≡ wn → Pair wn tn (requested b s id len v w t) (requested b s id len v w t')
  unfolding requested
  request_pair b s id v w lw =
      let lim : (len ≤ limit_of (length t) len) × (limit_of (length t) len ≤ length t) = limit_between (length t) len (omega arith) in
      let lim' : (len ≤ limit_of (length t') len) × (limit_of (length t') len ≤ length t') = limit_between (length t') len (omega arith) in
      let size : length (lent_to len t) ≡ limit_of (length t) len - len = mid_len len (limit_of (length t) len) t lim.1 in
      let size' : length (lent_to len t') ≡ limit_of (length t') len - len = mid_len len (limit_of (length t') len) t' lim'.1 in
      let one : limit_of (length t) len ≡ limit_of (length t') len = ap (λ (n : ℕ). limit_of n len) (lt ∙ sym lt') in
      came_pair v (length (lent_to len t)) (omega (arith, lim.0, lim.1, size)) _ _
      (both_request b (btf_of b s w) w (lent_to len t) (lent_to len t') id (size ∙ ap (λ (n : ℕ). n - len) one ∙ sym size'))
      (subst (λ (n : ℕ). Fair (Sized (length (lent_to len t)) n) (dumped (work_machine b (btf_of b s w)) (table_of (btf_of b s w)) (record { work = w; text = lent_to len t; at = 0; len = 0 }) id)) lw (sized_request b (btf_of b s w) w (lent_to len t) id))

-- ---- the calls for n ids from id on, after the call c, to the first that is refused
unfoldable pub singles : List ℕ → ℕ → ℕ → Call → Call
singles section zero id c = c
singles section (suc n) id c = elim (number_of c.answer) [ zero ↦ singles section n (suc id) (type_call c.session section c.work c.text id) | suc m ↦ c ]

singles_stop : (section : List ℕ) (n id : ℕ) (c : Call) → (number_of c.answer ≡ 0 → ⊥) → singles section n id c ≡ c
unfolding singles
singles_stop section zero id c h = refl
singles_stop section (suc n) id c h = go (number_of c.answer) refl
  where
    go : (k : ℕ) → number_of c.answer ≡ k → singles section (suc n) id c ≡ c
    go zero e = absurd (h e)
    go (suc k) e = rw (e, singles)

pub settled_with_lem : (s : Session) (len v wn tn : ℕ) (r : Reach) → settled (with_text s true len v) wn tn r ≡ settled s wn tn r
unfolding settled
settled_with_lem s len v wn tn (reached l w t) = refl
settled_with_lem s len v wn tn (refused_by c l u t) = refl

pub settled_tail : (s : Session) (wn tn len : ℕ) (w t t' : List ℕ) → take len t ≡ take len t' → settled s wn tn (reached len w t) ≡ settled s wn tn (reached len w t')
unfolding settled then_zeros
settled_tail s wn tn len w t t' e = λ i. record { session = with_text s true len (visits_in w); answer = answer_of 0 len; work = w; text = e i ++ replicate (tn - len) 0 }

settled_number : (s : Session) (wn tn c len v : ℕ) (t : List ℕ) → Listed c → number_of (settled s wn tn (refused_by c len v t)).answer ≡ 0 → ⊥
unfolding settled
settled_number s wn tn c len v t l e = let z : number_of (answer_of c len) ≡ c = number_is c len in omega (arith, l.0)

module _ (s : Session) (section : List ℕ) (wn tn : ℕ) (es : s.section_len ≡ length section) (ew : s.work_len ≡ wn) where
  abbrev Goal : ℕ → ℕ → ℕ → List ℕ → List ℕ → Type 0
  Goal n id len w t = settled s wn tn (requested_from (table_for s section) section n id len w t) ≡ singles section n id (settled s wn tn (reached len w t))

  next : (n id : ℕ) → ((len : ℕ) (w t : List ℕ) → length w ≡ wn → length t ≡ tn → len ≤ tn → Goal n (suc id) len w t) → (r r' : Reach) → Pair wn tn r r'
      → settled s wn tn (onward r (requested_from (table_for s section) section n (suc id))) ≡ singles section n (suc id) (settled s wn tn r')
  unfolding onward
  next n id ih _ _ (on_both len w t t' h lw lt e) = ih len w t lw lt h ∙ ap (singles section n (suc id)) (settled_tail s wn tn len w t t' e)
  next n id ih _ _ (off_both c len v t l) = sym (singles_stop section n (suc id) (settled s wn tn (refused_by c len v t)) (settled_number s wn tn c len v t l))

  module _ (len : ℕ) (w t : List ℕ) (lw : length w ≡ wn) (lt : length t ≡ tn) (h : len ≤ tn) where
    zeroed : length (then_zeros tn len t) ≡ tn
    zeroed = zeros_length len tn t (omega arith) h

    still : is_current (with_text s true len (visits_in w)) (length section) (length w) (length (then_zeros tn len t)) ≡ true
    unfolding is_current
    still = λ i. true && (eq-eqb s.section_len (length section) es i && (eq-eqb s.work_len (length w) (ew ∙ sym lw) i && le-leb len (length (then_zeros tn len t)) (omega (arith, zeroed)) i))

    -- the next single call
    called : (id : ℕ) → id < s.types → type_call (with_text s true len (visits_in w)) section w (then_zeros tn len t) id ≡ settled s wn tn (requested (table_for s section) section id len (visits_in w) w (then_zeros tn len t))
    called id i =
        type_settles (with_text s true len (visits_in w)) section w (then_zeros tn len t) id still i
        ∙ (λ j. settled (with_text s true len (visits_in w)) (lw j) (zeroed j) (requested (table_for s section) section id len (visits_in w) w (then_zeros tn len t)))
        ∙ settled_with_lem s len (visits_in w) wn tn (requested (table_for s section) section id len (visits_in w) w (then_zeros tn len t))

    unrolled : (n id : ℕ) → singles section (suc n) id (settled s wn tn (reached len w t)) ≡ singles section n (suc id) (type_call (with_text s true len (visits_in w)) section w (then_zeros tn len t) id)
    unfolding singles settled answer_of number_of
    unrolled n id = refl

  from_singles : (n id : ℕ) → ((k : ℕ) → k < n → id + k < s.types) → (len : ℕ) (w t : List ℕ) → length w ≡ wn → length t ≡ tn → len ≤ tn → Goal n id len w t
  unfolding requested_from singles
  from_singles zero id below len w t lw lt h = refl
  from_singles (suc n) id below len w t lw lt h =
      let i : id < s.types = omega (arith, below 0 (omega arith)) in
      next n id (λ len' w' t'. from_singles n (suc id) (λ k l. omega (arith, below (suc k) (omega arith))) len' w' t')
      (requested (table_for s section) section id len (visits_in w) w t) (requested (table_for s section) section id len (visits_in w) w (then_zeros tn len t))
      (request_pair wn tn len t (then_zeros tn len t) lt (zeroed len w t lw lt h) h (sym (zeros_head len tn t (omega arith) h len (le_refl len))) (table_for s section) section id (visits_in w) w lw)
      ∙ sym (ap (singles section n (suc id)) (called len w t lw lt h id i))
      ∙ sym (unrolled len w t lw lt h n id)

clipped : (s : Session) (section : List ℕ) → (table_for s section).types ≤ s.types
unfolding settings_of
clipped s section = go (ltb s.types 262145) refl
  where
    go : (q : Bool) → ltb s.types 262145 ≡ q → (table_for s section).types ≤ s.types
    go true e = rw e (le_refl s.types)
    go false e = let l : 262145 ≤ s.types = ltb-false s.types 262145 e in rw e l

pub parts_of : (p q r t : Bool) → p && (q && (r && t)) ≡ true → (q ≡ true) × (r ≡ true)
parts_of true true true t h = (refl, refl)
parts_of true true false t h = absurd (true≢false (sym h))
parts_of true false r t h = absurd (true≢false (sym h))
parts_of false q r t h = absurd (true≢false (sym h))

-- The request for all ids is the single calls from 1 upward, after the one that asks for nothing.
pub all_singles : (s : Session) (section w t : List ℕ) → is_current s (length section) (length w) (length t) ≡ true
    → types_call s section w t ≡ singles section ((table_for s section).types - 1) 1 (settled s (length w) (length t) (reached s.text_len w t))
unfolding is_current
all_singles s section w t h =
    let parts : (eqb s.section_len (length section) ≡ true) × (eqb s.work_len (length w) ≡ true) = parts_of s.«open» (eqb s.section_len (length section)) (eqb s.work_len (length w)) (leb s.text_len (length t)) h in
    let fits : s.text_len ≤ length t = current_fits s (length section) (length w) (length t) true (sym h) refl in
    types_settle s section w t h
    ∙ from_singles s section (length w) (length t) (eqb-true s.section_len (length section) parts.0) (eqb-true s.work_len (length w) parts.1)
    ((table_for s section).types - 1) 1 (λ k l. omega (arith, clipped s section)) s.text_len w t refl refl fits

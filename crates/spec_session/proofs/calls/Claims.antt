-- What a reader wants of the definitions of specs/Calls.antt: the text that was there stays, what follows the text is zero, a refused
-- opening changes nothing, a request is refused by 10 to 18, and one that is refused by 12 to 18 closes the session. Assumes nothing.
use Prim.Native.Nat.{ℕ, zero, suc, ◌+◌, ◌-◌, ◌<◌, ◌≤◌}
use mathlib.Core.Path.{◌≡◌, refl, ap, ◌∙◌, sym}
use mathlib.Core.Bool.{Bool, true, false}
use mathlib.Core.List.{List, ◌++◌, append_assoc}
use mathlib.Core.Logic.{◌⊎◌, inl, inr}
use native.Mathlib.Omega.{arith}
use native.Mathlib.Nat.{le_refl}
use lib.ListN.{length, take, drop, replicate, length-append, length-replicate}
use lib.Dec.{eqb}
use lib.Seq.{length-take-le, take-take, take-append-le, drop_at}
use borrow.Author.Tests.{lt-ltb, le-ltb, eqb-false}
use borrow.Rule.Slice.PartMut.{mid_len}
use Rattle.spec_bytes.specs.text.Placed.{place}
use Rattle.spec_bytes.proofs.text.TextLaws.{place_length}
use Rattle.spec_c_dumper.specs.rules.Machine.{Out}
use Rattle.spec_type_table.specs.declared.types.TypeTable.{TypeTable}
use Rattle.spec_opening.specs.Causes.{opening_number}
use Rattle.spec_opening.specs.Table.{types_of}
use Rattle.spec_opening.specs.Opened.{Outcome, opening_of}
use Rattle.spec_session.specs.emission.Slices.{Slices}
use Rattle.spec_session.specs.session.Answers.{Refused, number_of, value_of, answer_of}
use Rattle.spec_session.specs.declared.session.Session.{Session}
use Rattle.spec_session.specs.calls.Refusals.{number, value}
use Rattle.spec_session.specs.session.Turns.{Call, is_current, Reach, reached, refused_by, then_zeros, settled, unchanged, table_for, visits_in}
use Rattle.spec_session.specs.calls.Calls.{opened_call, open_call, limit_of, came_to, lent_to, requested, onward, requested_from, type_call, types_call}
use Rattle.spec_session.proofs.calls.Fair.{Listed, Fair, goes, stops, Inside}
use Rattle.spec_session.proofs.calls.Laws.{opens_refused, opens_sound, limit_between, fair_asked}
use Rattle.spec_session.proofs.session.Laws.{current_fits}

-- ---- the number and the value of an answer
pub number_is : (n v : ℕ) → number_of (answer_of n v) ≡ n
unfolding number_of answer_of
number_is zero v = refl
number_is (suc n) v = refl

pub value_is : (n v : ℕ) → value_of (answer_of n v) ≡ v
unfolding value_of answer_of
value_is zero v = refl
value_is (suc n) v = refl

-- ---- "Left as it was: all slices and the record"
pub refused_opening : (s : Session) (section w t : List ℕ) (pointer modes : ℕ) → (number_of (open_call s section w t pointer modes).answer ≡ 0 → ⊥)
    → ((open_call s section w t pointer modes).session ≡ s) × ((open_call s section w t pointer modes).work ≡ w) × ((open_call s section w t pointer modes).text ≡ t)
unfolding open_call opened_call
refused_opening s section w t pointer modes h = go (eqb (opening_number pointer section (length w)) 0) refl
  where
    go : (q : Bool) → eqb (opening_number pointer section (length w)) 0 ≡ q
        → ((open_call s section w t pointer modes).session ≡ s) × ((open_call s section w t pointer modes).work ≡ w) × ((open_call s section w t pointer modes).text ≡ t)
    go true e =
        let o : opening_of pointer modes section w t ≡ _ = opens_sound pointer modes section w t e in
        absurd (h (ap (λ (x : Outcome). number_of (opened_call s (length section) (length w) pointer modes x).answer) o ∙ number_is 0 _))
    go false e =
        let o : opening_of pointer modes section w t ≡ _ = opens_refused pointer modes section w t e in (
          ap (λ (x : Outcome). (opened_call s (length section) (length w) pointer modes x).session) o,
          ap (λ (x : Outcome). (opened_call s (length section) (length w) pointer modes x).work) o,
          ap (λ (x : Outcome). (opened_call s (length section) (length w) pointer modes x).text) o,
        )

-- "opening returns the count of types, void counted, and clears the text slice"
pub accepted_opening : (s : Session) (section w t : List ℕ) (pointer modes : ℕ) → number_of (open_call s section w t pointer modes).answer ≡ 0
    → ((open_call s section w t pointer modes).session.«open» ≡ true) × ((open_call s section w t pointer modes).session.text_len ≡ 0) × (value_of (open_call s section w t pointer modes).answer ≡ types_of section)
    × ((open_call s section w t pointer modes).text ≡ replicate (length t) 0)
unfolding open_call opened_call
accepted_opening s section w t pointer modes h = go (eqb (opening_number pointer section (length w)) 0) refl
  where
    go : (q : Bool) → eqb (opening_number pointer section (length w)) 0 ≡ q
        → ((open_call s section w t pointer modes).session.«open» ≡ true) × ((open_call s section w t pointer modes).session.text_len ≡ 0) × (value_of (open_call s section w t pointer modes).answer ≡ types_of section)
        × ((open_call s section w t pointer modes).text ≡ replicate (length t) 0)
    go true e =
        let o : opening_of pointer modes section w t ≡ _ = opens_sound pointer modes section w t e in (
          ap (λ (x : Outcome). (opened_call s (length section) (length w) pointer modes x).session.«open») o,
          ap (λ (x : Outcome). (opened_call s (length section) (length w) pointer modes x).session.text_len) o,
          ap (λ (x : Outcome). value_of (opened_call s (length section) (length w) pointer modes x).answer) o ∙ value_is 0 (types_of section),
          ap (λ (x : Outcome). (opened_call s (length section) (length w) pointer modes x).text) o,
        )
    go false e =
        let o : opening_of pointer modes section w t ≡ _ = opens_refused pointer modes section w t e in
        let n : number_of (open_call s section w t pointer modes).answer ≡ opening_number pointer section (length w) = ap (λ (x : Outcome). number_of (opened_call s (length section) (length w) pointer modes x).answer) o ∙ number_is (opening_number pointer section (length w)) 0 in
        absurd (eqb-false (opening_number pointer section (length w)) 0 e (sym n ∙ h))

-- ---- where requests come to, on a text slice of n bytes that begins with the l bytes p
pub data Sane (l : ℕ) (p : List ℕ) (n : ℕ) : Reach → Type 0 where
  on : (len : ℕ) (w t : List ℕ) → l ≤ len → len ≤ n → length t ≡ n → take l t ≡ p → Sane l p n (reached len w t)
  off : (c len v : ℕ) (t : List ℕ) → Listed c → l ≤ len → len ≤ n → length t ≡ len → take l t ≡ p → Sane l p n (refused_by c len v t)

module _ (l : ℕ) (p : List ℕ) (n : ℕ) where
  module _ (len : ℕ) (t : List ℕ) (low : l ≤ len) (high : len ≤ n) (long : length t ≡ n) (begins : take l t ≡ p) where
    came_sane : (v k : ℕ) → len + k ≤ n → (o : Out Slices (Unit {0})) → Fair (Inside k) o → Sane l p n (came_to len v t o)
    unfolding came_to
    came_sane v k fits _ (goes m g) =
        let room : len + length m.text ≤ length t = omega (arith, g.1) in
        let size : length (place t len m.text) ≡ length t = place_length t len m.text room in
        let head : length (take len t) ≡ len = length-take-le len t (omega arith) in
        on (len + m.at) m.work (place t len m.text) (omega arith) (omega (arith, g.0, g.1)) (size ∙ long)
        (ap (take l) (assoc (take len t) m.text (drop (len + length m.text) t))
        ∙ take-append-le l (take len t) (m.text ++ drop (len + length m.text) t) (omega (arith, head))
        ∙ take-take l len t low
        ∙ begins)
      where
        assoc : (a b c : List ℕ) → a ++ b ++ c ≡ a ++ (b ++ c)
        assoc a b c = simp append_assoc
    came_sane v k fits _ (stops c q) =
        off c len v (take len t) q low high (length-take-le len t (omega arith)) (take-take l len t low ∙ begins)

    pub request_sane : (b : TypeTable) (s : List ℕ) (id v : ℕ) (w : List ℕ) → Sane l p n (requested b s id len v w t)
    unfolding requested
    request_sane b s id v w =
        let lim : (len ≤ limit_of (length t) len) × (limit_of (length t) len ≤ length t) = limit_between (length t) len (omega arith) in
        let size : length (lent_to len t) ≡ limit_of (length t) len - len = mid_len len (limit_of (length t) len) t lim.1 in
        came_sane v (length (lent_to len t)) (omega (arith, lim.0, lim.1, size)) _ (fair_asked b s w id (lent_to len t))

  onward_sane : (r : Reach) (k : ℕ → List ℕ → List ℕ → Reach) → Sane l p n r → ((len : ℕ) (w t : List ℕ) → l ≤ len → len ≤ n → length t ≡ n → take l t ≡ p → Sane l p n (k len w t)) → Sane l p n (onward r k)
  unfolding onward
  onward_sane _ k (on len w t a b c d) h = h len w t a b c d
  onward_sane _ k (off c len v t q a b e d) h = off c len v t q a b e d

  pub from_sane : (b : TypeTable) (s : List ℕ) (count id len : ℕ) (w t : List ℕ) → l ≤ len → len ≤ n → length t ≡ n → take l t ≡ p → Sane l p n (requested_from b s count id len w t)
  unfolding requested_from
  from_sane b s zero id len w t a b' c d = on len w t a b' c d
  from_sane b s (suc count) id len w t a b' c d =
      onward_sane (requested b s id len (visits_in w) w t) (requested_from b s count (suc id)) (request_sane len t a b' c d b s id (visits_in w) w)
      (λ len' w' t' a' b'' c' d'. from_sane b s count (suc id) len' w' t' a' b'' c' d')

-- ---- visits: an accepted request leaves those that its work counts, and a refused one those before it
pub data Visited (v : ℕ) : Reach → Type 0 where
  went : (len : ℕ) (w t : List ℕ) → Visited v (reached len w t)
  stayed : (c len : ℕ) (t : List ℕ) → 0 < c → Visited v (refused_by c len v t)

came_counts : (len v k : ℕ) (t : List ℕ) (o : Out Slices (Unit {0})) → Fair (Inside k) o → Visited v (came_to len v t o)
unfolding came_to
came_counts len v k t _ (goes m g) = went (len + m.at) m.work (place t len m.text)
came_counts len v k t _ (stops c q) = stayed c len (take len t) (omega (arith, q.0))

pub request_counts : (b : TypeTable) (s : List ℕ) (id len v : ℕ) (w t : List ℕ) → Visited v (requested b s id len v w t)
unfolding requested
request_counts b s id len v w t = came_counts len v (length (lent_to len t)) t _ (fair_asked b s w id (lent_to len t))

module _ (s : Session) (wn tn v : ℕ) where
  pub accepted_counts : (r : Reach) → Visited v r → number_of (settled s wn tn r).answer ≡ 0 → (settled s wn tn r).session.visits ≡ visits_in (settled s wn tn r).work
  unfolding settled
  accepted_counts _ (went len w t) z = refl
  accepted_counts _ (stayed c len t q) z = let n : number_of (answer_of c len) ≡ c = number_is c len in absurd (omega arith)

  pub refused_counts : (r : Reach) → Visited v r → (number_of (settled s wn tn r).answer ≡ 0 → ⊥) → (settled s wn tn r).session.visits ≡ v
  unfolding settled
  refused_counts _ (went len w t) z = absurd (z (number_is 0 len))
  refused_counts _ (stayed c len t q) z = refl

-- What every request keeps: of a session s and a text slice that is long enough, against the call c.
pub record Kept (s : Session) (text : List ℕ) (c : Call) : Type 0 where
  pub length_kept : length c.text ≡ length text
  pub text_kept : take s.text_len c.text ≡ take s.text_len text
  pub grows : s.text_len ≤ c.session.text_len
  pub fits : c.session.text_len ≤ length text
  pub value_kept : value_of c.answer ≡ c.session.text_len
  pub zero_after : drop c.session.text_len c.text ≡ replicate (length text - c.session.text_len) 0
  pub number_kept : (number_of c.answer ≡ 0) ⊎ Listed (number_of c.answer)
  pub closes : Listed (number_of c.answer) → c.session.«open» ≡ false

module _ (len n : ℕ) (t : List ℕ) (short : len ≤ length t) (high : len ≤ n) where
  head : length (take len t) ≡ len
  head = length-take-le len t short

  pub zeros_length : length (then_zeros n len t) ≡ n
  unfolding then_zeros
  zeros_length = length-append (take len t) (replicate (n - len) 0) ∙ omega (arith, head, length-replicate {A = ℕ} (n - len) 0)

  zeros_tail : drop len (then_zeros n len t) ≡ replicate (n - len) 0
  unfolding then_zeros
  zeros_tail = drop_at (take len t) (replicate (n - len) 0) len head

  pub zeros_head : (l : ℕ) → l ≤ len → take l (then_zeros n len t) ≡ take l t
  unfolding then_zeros
  zeros_head l h = take-append-le l (take len t) (replicate (n - len) 0) (omega (arith, head)) ∙ take-take l len t h

module _ (s : Session) (work : ℕ) (text : List ℕ) where
  pub settled_kept : (r : Reach) → Sane s.text_len (take s.text_len text) (length text) r → Kept s text (settled s work (length text) r)
  unfolding settled
  settled_kept _ (on len w t a b c d) =
      let short : len ≤ length t = omega arith in
      record {
        length_kept = zeros_length len (length text) t short b;
        text_kept = zeros_head len (length text) t short b s.text_len a ∙ d;
        grows = a;
        fits = b;
        value_kept = value_is 0 len;
        zero_after = zeros_tail len (length text) t short b;
        number_kept = inl (number_is 0 len);
        closes = λ q. let z : number_of (answer_of 0 len) ≡ 0 = number_is 0 len in absurd (omega (arith, q.0));
      }
  settled_kept _ (off c len v t q a b e d) =
      let short : len ≤ length t = omega arith in
      let z : number_of (answer_of c len) ≡ c = number_is c len in
      record {
        length_kept = zeros_length len (length text) t short b;
        text_kept = zeros_head len (length text) t short b s.text_len a ∙ d;
        grows = a;
        fits = b;
        value_kept = value_is c len;
        zero_after = zeros_tail len (length text) t short b;
        number_kept = inr (omega (arith, z, q.0), omega (arith, z, q.1));
        closes = λ _. refl;
      }

-- A request for one id: 11 and 10 leave everything; else what `Kept` says.
module _ (s : Session) (section work text : List ℕ) where
  pub type_settles : (id : ℕ) → is_current s (length section) (length work) (length text) ≡ true → id < s.types
      → type_call s section work text id ≡ settled s (length work) (length text) (requested (table_for s section) section id s.text_len s.visits work text)
  unfolding type_call
  type_settles id h l = rw (h, type_call, lt-ltb id s.types l)

  pub types_settle : is_current s (length section) (length work) (length text) ≡ true
      → types_call s section work text ≡ settled s (length work) (length text) (requested_from (table_for s section) section ((table_for s section).types - 1) 1 s.text_len work text)
  unfolding types_call
  types_settle h = rw (h, types_call)

  pub type_current : (id : ℕ) → is_current s (length section) (length work) (length text) ≡ true → id < s.types → Kept s text (type_call s section work text id)
  unfolding type_call
  type_current id h l =
      let fits : s.text_len ≤ length text = current_fits s (length section) (length work) (length text) true (sym h) refl in
      rw (h, type_call, lt-ltb id s.types l)
      (settled_kept s (length work) text _ (request_sane s.text_len (take s.text_len text) (length text) s.text_len text (le_refl s.text_len) fits refl refl (table_for s section) section id s.visits work))

  pub type_not_below : (id : ℕ) → is_current s (length section) (length work) (length text) ≡ true → s.types ≤ id → type_call s section work text id ≡ unchanged s (Refused 10 s.text_len) work text
  unfolding type_call number value answer_of
  type_not_below id h l = rw (h, type_call, le-ltb id s.types l)

  pub type_not_current : (id : ℕ) → is_current s (length section) (length work) (length text) ≡ false → type_call s section work text id ≡ unchanged s (Refused 11 s.text_len) work text
  unfolding type_call number value answer_of
  type_not_current id h = rw (h, type_call)

  -- all ids
  pub types_current : is_current s (length section) (length work) (length text) ≡ true → Kept s text (types_call s section work text)
  unfolding types_call
  types_current h =
      let fits : s.text_len ≤ length text = current_fits s (length section) (length work) (length text) true (sym h) refl in
      rw (h, types_call)
      (settled_kept s (length work) text _ (from_sane s.text_len (take s.text_len text) (length text) (table_for s section) section ((table_for s section).types - 1) 1 s.text_len work text (le_refl s.text_len) fits refl refl))

  pub types_not_current : is_current s (length section) (length work) (length text) ≡ false → types_call s section work text ≡ unchanged s (Refused 11 s.text_len) work text
  unfolding types_call number value answer_of
  types_not_current h = rw (h, types_call)

  -- after 12 to 18 every later request gives 11, whatever is lent
  pub closed_stays : s.«open» ≡ false → is_current s (length section) (length work) (length text) ≡ false
  unfolding is_current
  closed_stays h = rw h

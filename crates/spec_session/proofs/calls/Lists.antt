-- A call with a list of ids: what a reader wants of specs/Lists.antt. It does not matter when what follows the text is zeroed (`Tails`,
-- `Singles`), so once is enough. Assumes nothing.
use Prim.Native.Nat.{ℕ, zero, suc, ◌+◌, ◌-◌, ◌/◌, ◌<◌, ◌≤◌}
use mathlib.Core.Path.{◌≡◌, refl, ap, ◌∙◌, sym, subst}
use mathlib.Core.Bool.{Bool, true, false, ◌&&◌}
use mathlib.Core.List.{List, [], ◌∷◌, ◌++◌}
use mathlib.Core.Logic.{⊎_elim}
use native.Mathlib.Omega.{arith}
use native.Mathlib.Nat.{le_refl}
use native.Mathlib.Numerals.{add-one}
use lib.ListN.{length, take}
use lib.Dec.{eqb, leb, ltb}
use borrow.Author.Tests.{le-leb, lt-leb, eq-eqb, eqb-true, ltb-true, ltb-false}
use Rattle.std.proofs.lemmas.Bool.{cases_lt}
use Rattle.spec_bytes.specs.words.Words.{get_word, table, words}
use Rattle.spec_session.specs.session.Answers.{Refused, number_of, value_of, answer_of}
use Rattle.spec_session.specs.declared.session.Session.{Session}
use Rattle.spec_session.specs.session.Turns.{Call, call_of, is_current, Reach, reached, refused_by, with_text, then_zeros, settled, unchanged, table_for, visits_in}
use Rattle.spec_session.specs.calls.Calls.{requested, type_call}
use Rattle.spec_session.specs.calls.Lists.{ids_in, then_next, list_from, count_in, tailed}
use Rattle.spec_session.proofs.calls.Fair.{Listed}
use Rattle.spec_session.proofs.session.Laws.{current_fits}
use Rattle.spec_session.proofs.calls.Claims.{number_is, value_is, Sane, on, off, zeros_length, zeros_head, Kept, type_settles, type_current, type_not_below, type_not_current, Visited, request_counts, accepted_counts, refused_counts}
use Rattle.spec_session.proofs.calls.Singles.{Pair, on_both, off_both, request_pair, settled_with_lem, settled_tail, parts_of}

-- ---- the ids
-- n of them, from the k-th on
unfoldable pub ids_from : List ℕ → ℕ → ℕ → List ℕ
ids_from b k n = table (get_word b) k n

take_table : (f : ℕ → ℕ) (m k n : ℕ) → take m (table f k n) ≡ table f k (n - (n - m))
take_table f zero k n = let e : n - (n - 0) ≡ 0 = omega arith in sym (ap (table f k) e)
take_table f (suc m) k zero = let e : 0 - (0 - suc m) ≡ 0 = omega arith in sym (ap (table f k) e)
take_table f (suc m) k (suc n) =
    let e : suc n - (suc n - suc m) ≡ suc (n - (n - m)) = omega arith in
    ap {B = List ℕ} (λ l. f k ∷ l) (take_table f m (suc k) n) ∙ sym (ap (table f k) e)

module _ (b : List ℕ) where
  pub count_few : length b / 4 ≤ 4294967295 → count_in b ≡ length b / 4
  unfolding count_in
  count_few h = rw (le-leb (length b / 4) 4294967295 h, count_in)

  pub count_many : 4294967295 < length b / 4 → count_in b ≡ 4294967295
  unfolding count_in
  count_many h = rw (lt-leb (length b / 4) 4294967295 h, count_in)

  count_is : count_in b ≡ length b / 4 - (length b / 4 - 4294967295)
  count_is = ⊎_elim (λ l. count_many l ∙ omega arith) (λ l. count_few l ∙ omega arith) (cases_lt 4294967295 (length b / 4))

  pub ids_all : ids_in b ≡ ids_from b 0 (count_in b)
  unfolding ids_in ids_from words
  ids_all = take_table (get_word b) 4294967295 0 (length b / 4) ∙ ap (table (get_word b) 0) (sym count_is)

  pub ids_none : length b < 4 → ids_in b ≡ []
  unfolding ids_from
  ids_none h =
      let z : length b / 4 ≡ 0 = omega arith in
      let e : count_in b ≡ 0 = count_is ∙ omega arith in
      ids_all ∙ ap (ids_from b 0) e

  pub ids_cons : (k n : ℕ) → k < n → ids_from b k (n - k) ≡ get_word b k ∷ ids_from b (k + 1) (n - (k + 1))
  unfolding ids_from
  ids_cons k n h =
      let e : n - k ≡ suc (n - (k + 1)) = omega arith in
      ap (table (get_word b) k) e ∙ ap (λ (j : ℕ). get_word b k ∷ table (get_word b) j (n - (k + 1))) (sym (add-one k))

  pub ids_some : 4 ≤ length b → ids_in b ≡ get_word b 0 ∷ ids_from b 1 (count_in b - 1)
  ids_some h =
      let e : 0 < count_in b = omega (arith, count_is) in
      let z : count_in b ≡ count_in b - 0 = omega arith in
      ids_all ∙ ap (ids_from b 0) z ∙ ids_cons 0 (count_in b) e

-- ---- clear_after
pub tail_zeroed : (n len : ℕ) (t t' : List ℕ) → (n ≡ 0 → ⊥) → t' ≡ then_zeros (length t) len t → t' ≡ tailed n len t
unfolding tailed
tail_zeroed zero len t t' h e = absurd (h refl)
tail_zeroed (suc n) len t t' h e = e

module _ (n len : ℕ) (t : List ℕ) (short : len ≤ length t) where
  pub tail_length : length (tailed n len t) ≡ length t
  unfolding tailed
  tail_length = go n
    where
      go : (k : ℕ) → length (tailed k len t) ≡ length t
      go zero = refl
      go (suc k) = zeros_length len (length t) t short short

  pub tail_head : take len t ≡ take len (tailed n len t)
  unfolding tailed
  tail_head = go n
    where
      go : (k : ℕ) → take len t ≡ take len (tailed k len t)
      go zero = refl
      go (suc k) = sym (zeros_head len (length t) t short short len (le_refl len))

-- ---- one id after another
pub sane_listed : (l : ℕ) (p : List ℕ) (n : ℕ) (q : Reach) → Sane l p n q → (c len v : ℕ) (t : List ℕ) → q ≡ refused_by c len v t → Listed c
sane_listed l p n _ (on len' w u a b d e) c len v t q = let z : ◌≡◌ {A = ℕ} 0 1 = cc in absurd (omega arith)
sane_listed l p n _ (off c' len' v' u k a b d e) c len v t q = let z : c' ≡ c = cc in (omega (arith, k.0), omega (arith, k.1))

pub counted_goes : (n : ℕ) (c : Call) (k : Call → Call) → number_of c.answer ≡ 0 → then_next n c k ≡ k c
unfolding then_next
counted_goes n c k e = rw (e, then_next)

pub counted_stops : (n m : ℕ) (c : Call) (k : Call → Call) → number_of c.answer ≡ m → (m ≡ 0 → ⊥) → then_next n c k ≡ call_of c.session (answer_of m n) c.work c.text
unfolding then_next
counted_stops n zero c k e h = absurd (h refl)
counted_stops n (suc m) c k e h = rw (e, then_next)

module _ (s : Session) (section : List ℕ) where
  pair_settled : (wn tn : ℕ) (q q' : Reach) → Pair wn tn q q' → settled s wn tn q' ≡ settled s wn tn q
  pair_settled wn tn _ _ (on_both len w t t' h lw lt e) = settled_tail s wn tn len w t' t (sym e)
  pair_settled wn tn _ _ (off_both c len v t l) = refl

  -- a call on another text that begins alike comes to what the request comes to
  module _ (es : s.section_len ≡ length section) (len v : ℕ) (w t t' : List ℕ) (ew : s.work_len ≡ length w) (lt : length t' ≡ length t) (h : len ≤ length t) (same : take len t ≡ take len t') (id : ℕ) where
    pub current : is_current (with_text s true len v) (length section) (length w) (length t') ≡ true
    unfolding is_current
    current = λ i. true && (eq-eqb s.section_len (length section) es i && (eq-eqb s.work_len (length w) ew i && le-leb len (length t') (omega arith) i))

    pub called : id < s.types → type_call (with_text s true len v) section w t' id ≡ settled s (length w) (length t) (requested (table_for s section) section id len v w t)
    called l =
        type_settles (with_text s true len v) section w t' id current l
        ∙ ap (λ (n : ℕ). settled (with_text s true len v) (length w) n (requested (table_for s section) section id len v w t')) lt
        ∙ settled_with_lem s len v (length w) (length t) (requested (table_for s section) section id len v w t')
        ∙ pair_settled (length w) (length t) _ _ (request_pair (length w) (length t) len t t' refl lt h same (table_for s section) section id v w refl)

  module _ (w t : List ℕ) (h : is_current s (length section) (length w) (length t) ≡ true) where
    parts : (eqb s.section_len (length section) ≡ true) × (eqb s.work_len (length w) ≡ true)
    unfolding is_current
    parts = parts_of s.«open» (eqb s.section_len (length section)) (eqb s.work_len (length w)) (leb s.text_len (length t)) h

    pub its_section : s.section_len ≡ length section
    its_section = eqb-true s.section_len (length section) parts.0

    pub its_work : s.work_len ≡ length w
    its_work = eqb-true s.work_len (length w) parts.1

    pub its_text : s.text_len ≤ length t
    its_text = current_fits s (length section) (length w) (length t) true (sym h) refl

    pub open_now : s.«open» ≡ true
    unfolding is_current
    open_now = first_of s.«open» (eqb s.section_len (length section) && (eqb s.work_len (length w) && leb s.text_len (length t))) h
      where
        first_of : (p q : Bool) → p && q ≡ true → p ≡ true
        first_of true q e = refl
        first_of false q e = e

-- ---- what every single request keeps
pub record Single (s : Session) (t : List ℕ) (c : Call) : Type 0 where
  pub value_same : value_of c.answer ≡ c.session.text_len
  pub grows : s.text_len ≤ c.session.text_len
  pub long : length c.text ≡ length t
  pub untouched : number_of c.answer < 12 → (number_of c.answer ≡ 0 → ⊥) → c.session ≡ s
  pub formed : c.answer ≡ answer_of (number_of c.answer) (value_of c.answer)
  -- "the counted visits [..] are kept in the record", and a refusal leaves them
  pub counts : number_of c.answer ≡ 0 → c.session.visits ≡ visits_in c.work
  pub leaves : (number_of c.answer ≡ 0 → ⊥) → c.session.visits ≡ s.visits

pub formed_of : (n v : ℕ) → answer_of n v ≡ answer_of (number_of (answer_of n v)) (value_of (answer_of n v))
formed_of n v = sym (λ i. answer_of (number_is n v i) (value_is n v i))

pub settled_formed : (s : Session) (wn tn : ℕ) (r : Reach) → (settled s wn tn r).answer ≡ answer_of (number_of (settled s wn tn r).answer) (value_of (settled s wn tn r).answer)
unfolding settled
settled_formed s wn tn (reached len w t) = formed_of 0 len
settled_formed s wn tn (refused_by c len v t) = formed_of c len

module _ (s : Session) (section w t : List ℕ) where
  refused_single : (n : ℕ) → Single s t (unchanged s (Refused (suc n) s.text_len) w t)
  unfolding value_of number_of answer_of
  refused_single n = record { value_same = refl; grows = le_refl s.text_len; long = refl; untouched = λ l z. refl; formed = refl; counts = λ z. absurd (omega arith); leaves = λ z. refl }

  kept_single : (c : Call) → Kept s t c → (q : Reach) → Visited s.visits q → c ≡ settled s (length w) (length t) q → Single s t c
  kept_single c k q v e = record {
    value_same = k.value_kept;
    grows = k.grows;
    long = k.length_kept;
    untouched = λ l z. absurd (⊎_elim z (λ q. omega (arith, q.0)) k.number_kept);
    formed = subst (λ (d : Call). d.answer ≡ answer_of (number_of d.answer) (value_of d.answer)) (sym e) (settled_formed s (length w) (length t) q);
    counts = subst (λ (d : Call). number_of d.answer ≡ 0 → d.session.visits ≡ visits_in d.work) (sym e) (accepted_counts s (length w) (length t) s.visits q v);
    leaves = subst (λ (d : Call). (number_of d.answer ≡ 0 → ⊥) → d.session.visits ≡ s.visits) (sym e) (refused_counts s (length w) (length t) s.visits q v);
  }

  pub type_single : (id : ℕ) → Single s t (type_call s section w t id)
  type_single id = go (is_current s (length section) (length w) (length t)) (ltb id s.types) refl refl
    where
      go : (q u : Bool) → is_current s (length section) (length w) (length t) ≡ q → ltb id s.types ≡ u → Single s t (type_call s section w t id)
      go false u e f = subst (Single s t) (sym (type_not_current s section w t id e)) (refused_single 10)
      go true false e f = subst (Single s t) (sym (type_not_below s section w t id e (ltb-false id s.types f))) (refused_single 9)
      go true true e f =
          kept_single (type_call s section w t id) (type_current s section w t id e (ltb-true id s.types f))
          (requested (table_for s section) section id s.text_len s.visits w t) (request_counts (table_for s section) section id s.text_len s.visits w t) (type_settles s section w t id e (ltb-true id s.types f))

-- ---- a list after another
-- after a call that was accepted for a list comes another list
unfoldable pub and_then : Call → (Call → Call) → Call
and_then c k = elim (number_of c.answer) [ zero ↦ k c | suc m ↦ c ]

counted_then : (n : ℕ) (c : Call) (k f : Call → Call) → and_then (then_next n c k) f ≡ then_next n c (λ d. and_then (k d) f)
unfolding and_then then_next call_of number_of answer_of
counted_then n c k f = go (number_of c.answer) refl
  where
    go : (m : ℕ) → number_of c.answer ≡ m → and_then (then_next n c k) f ≡ then_next n c (λ d. and_then (k d) f)
    go zero e = rw (e, then_next)
    go (suc m) e = rw (e, then_next)

module _ (section : List ℕ) where
  -- a list is its first ids, and then the others, where the first are all accepted
  pub list_append : (n : ℕ) (s : Session) (w t : List ℕ) (xs ys : List ℕ)
      → list_from n s section w t (xs ++ ys) ≡ and_then (list_from n s section w t xs) (λ c. list_from (value_of c.answer) c.session section c.work c.text ys)
  unfolding list_from and_then call_of number_of value_of answer_of
  list_append n s w t [] ys = refl
  list_append n s w t (x ∷ xs) ys =
      ap (then_next n (type_call s section w t x)) (λ i c. list_append (suc n) c.session c.work c.text xs ys i)
      ∙ sym (counted_then n (type_call s section w t x) (λ c. list_from (suc n) c.session section c.work c.text xs) (λ c. list_from (value_of c.answer) c.session section c.work c.text ys))

  -- how many were accepted, and what stays
  pub record Counts (n : ℕ) (s : Session) (t : List ℕ) (c : Call) : Type 0 where
    pub at_least : n ≤ value_of c.answer
    pub grows : s.text_len ≤ c.session.text_len
    pub long : length c.text ≡ length t
    pub still : value_of c.answer ≡ n → number_of c.answer < 12 → c.session ≡ s

  counted_counts : (n : ℕ) (s : Session) (t : List ℕ) (c : Call) (k : Call → Call) → Single s t c → Counts (suc n) c.session c.text (k c) → Counts n s t (then_next n c k)
  unfolding then_next call_of
  counted_counts n s t c k h i = go (number_of c.answer) refl
    where
      go : (m : ℕ) → number_of c.answer ≡ m → Counts n s t (then_next n c k)
      go zero e = subst (Counts n s t) (sym (counted_goes n c k e)) (record {
        at_least = omega (arith, i.at_least);
        grows = omega (arith, h.grows, i.grows);
        long = i.long ∙ h.long;
        still = λ q l. absurd (omega (arith, i.at_least));
      })
      go (suc m) e = subst (Counts n s t) (sym (counted_stops n (suc m) c k e (λ z. absurd (omega arith)))) (record {
        at_least = subst (λ (v : ℕ). n ≤ v) (sym (value_is (suc m) n)) (le_refl n);
        grows = h.grows;
        long = h.long;
        still = λ q l. h.untouched (subst (λ (v : ℕ). v < 12) (number_is (suc m) n ∙ sym e) l) (λ z. absurd (omega arith));
      })

  pub list_counts : (n : ℕ) (s : Session) (w t : List ℕ) (ids : List ℕ) → Counts n s t (list_from n s section w t ids)
  unfolding list_from call_of
  list_counts n s w t [] = record { at_least = subst (λ (v : ℕ). n ≤ v) (sym (value_is 0 n)) (le_refl n); grows = le_refl s.text_len; long = refl; still = λ q l. refl }
  list_counts n s w t (x ∷ ids) =
      counted_counts n s t (type_call s section w t x) (λ c. list_from (suc n) c.session section c.work c.text ids) (type_single s section w t x)
      (list_counts (suc n) (type_call s section w t x).session (type_call s section w t x).work (type_call s section w t x).text ids)

-- The record's bytes after a call say the session after it, where text length and visits, and after opening every number of 32 bits, are below
-- 4,294,967,296. That they are, and what follows for the calls one after another, is in `proof_calls::calls_for_c`. Assumes nothing.
use Prim.Native.Nat.{ℕ, zero, suc, ◌+◌, ◌-◌, ◌*◌, ◌/◌, ◌%◌, ◌<◌, ◌≤◌}
use mathlib.Core.Path.{◌≡◌, refl, ap, ◌∙◌, sym, subst}
use mathlib.Core.Bool.{Bool, true, false, ◌&&◌}
use mathlib.Core.List.{List, [], ◌∷◌}
use mathlib.Core.Logic.{◌≢◌}
use native.Mathlib.Omega.{arith}
use native.Mathlib.Nat.{le_refl}
use lib.Dec.{eqb, ltb, leb}
use lib.ListN.{length, take, get_or}
use borrow.Author.Tests.{le-ltb, ltb-true, ltb-false}
use Rattle.std.specs.Cmp.{first_so}
use Rattle.spec_bytes.specs.words.Words.{get_word, put_word}
use Rattle.spec_bytes.proofs.words.Laws.{get_put_same, get_put_other, put_length}
use Rattle.spec_session.specs.session.Answers.{Refused, answer_of}
use Rattle.spec_session.specs.declared.session.Session.{Session}
use Rattle.spec_session.specs.session.Turns.{Call, is_current, Reach, with_text, settled, unchanged, table_for, visits_in}
use Rattle.spec_session.specs.calls.Calls.{requested, requested_from, type_call, types_call}
use Rattle.spec_session.proofs.session.Laws.{current_fits}
use Rattle.spec_session.proofs.calls.Claims.{Sane, on, off, request_sane, from_sane, type_settles, type_not_below, type_not_current, types_settle, types_not_current}
use Rattle.session_record.specs.record_words.Words.{get_long, put_long, put_longs, decoded, words_of, encoded, put_reached}
use Rattle.session_record.specs.record_bytes.Record.{record_refused, record_after}

-- ---- words of 64 bits
pub long_length : (r : List ℕ) (i v : ℕ) → length (put_long r i v) ≡ length r
unfolding put_long
long_length r i v = put_length (put_word r (i * 2) (v % 4294967296)) (i * 2 + 1) (v / 4294967296) ∙ put_length r (i * 2) (v % 4294967296)

module _ (r : List ℕ) (i v : ℕ) where
  -- a word of 32 bits that is not of word i
  word_else : (k : ℕ) → k ≢ i * 2 → k ≢ i * 2 + 1 → get_word (put_long r i v) k ≡ get_word r k
  unfolding put_long
  word_else k n m = get_put_other (put_word r (i * 2) (v % 4294967296)) (i * 2 + 1) k (v / 4294967296) m ∙ get_put_other r (i * 2) k (v % 4294967296) n

  low_other : (k : ℕ) → k ≢ i → get_word (put_long r i v) (k * 2) ≡ get_word r (k * 2)
  low_other k n = word_else (k * 2) (λ e. absurd (n (omega arith))) (λ e. absurd (omega arith))

  pub long_other : (k : ℕ) → k ≢ i → get_long (put_long r i v) k ≡ get_long r k
  unfolding get_long
  long_other k n = λ j. word_else (k * 2 + 1) (λ e. absurd (omega arith)) (λ e. absurd (n (omega arith))) j * 4294967296 + low_other k n j

  module _ (h : 128 ≤ length r) (l : i < 16) where
    low_same : get_word (put_long r i v) (i * 2) ≡ v % 4294967296
    unfolding put_long
    low_same =
        get_put_other (put_word r (i * 2) (v % 4294967296)) (i * 2 + 1) (i * 2) (v / 4294967296) (λ e. absurd (omega arith))
        ∙ get_put_same r (i * 2) (v % 4294967296) (omega arith)

    high_same : get_word (put_long r i v) (i * 2 + 1) ≡ v / 4294967296
    unfolding put_long
    high_same = get_put_same (put_word r (i * 2) (v % 4294967296)) (i * 2 + 1) (v / 4294967296) (omega (arith, put_length r (i * 2) (v % 4294967296)))

    pub long_same : get_long (put_long r i v) i ≡ v
    unfolding get_long
    long_same = (λ j. high_same j * 4294967296 + low_same j) ∙ omega arith

-- ---- a request
-- the text length, and the visits
pub reached_length : (r : List ℕ) (len v : ℕ) → length (put_reached r len v) ≡ length r
unfolding put_reached
reached_length r len v = long_length (put_long r 5 len) 8 v ∙ long_length r 5 len

module _ (r : List ℕ) (h : 128 ≤ length r) where
  -- word k, of neither
  long_past : (len v k : ℕ) → k ≢ 5 → k ≢ 8 → get_long (put_reached r len v) k ≡ get_long r k
  unfolding put_reached
  long_past len v k n m = long_other (put_long r 5 len) 8 v k m ∙ long_other r 5 len k n

  low_past : (len v k : ℕ) → k ≢ 5 → k ≢ 8 → get_word (put_reached r len v) (k * 2) ≡ get_word r (k * 2)
  unfolding put_reached
  low_past len v k n m = low_other (put_long r 5 len) 8 v k m ∙ low_other r 5 len k n

  text_back : (len v : ℕ) → get_word (put_reached r len v) 10 ≡ len % 4294967296
  unfolding put_reached
  text_back len v = low_other (put_long r 5 len) 8 v 5 (λ e. absurd (omega arith)) ∙ low_same r 5 len h (omega arith)

  visits_back : (len v : ℕ) → get_word (put_reached r len v) 16 ≡ v % 4294967296
  unfolding put_reached
  visits_back len v = low_same (put_long r 5 len) 8 v (omega (arith, long_length r 5 len)) (omega arith)

  pub text_decodes : (len v : ℕ) → len < 4294967296 → v < 4294967296 → decoded (put_reached r len v) ≡ with_text (decoded r) (decoded r).«open» len v
  unfolding decoded
  text_decodes len v l k =
      let small : len % 4294967296 ≡ len = omega arith in
      let few : v % 4294967296 ≡ v = omega arith in
      λ i. record {
        «open» = eqb (long_past len v 0 (λ e. absurd (omega arith)) (λ e. absurd (omega arith)) i) 1;
        section_len = long_past len v 1 (λ e. absurd (omega arith)) (λ e. absurd (omega arith)) i;
        work_len = long_past len v 2 (λ e. absurd (omega arith)) (λ e. absurd (omega arith)) i;
        types = low_past len v 3 (λ e. absurd (omega arith)) (λ e. absurd (omega arith)) i;
        enumerators = low_past len v 4 (λ e. absurd (omega arith)) (λ e. absurd (omega arith)) i;
        text_len = (text_back len v ∙ small) i;
        pointer_size = low_past len v 6 (λ e. absurd (omega arith)) (λ e. absurd (omega arith)) i;
        modes = low_past len v 7 (λ e. absurd (omega arith)) (λ e. absurd (omega arith)) i;
        visits = (visits_back len v ∙ few) i;
      }

  pub close_decodes : decoded (put_long r 0 0) ≡ with_text (decoded r) false (decoded r).text_len (decoded r).visits
  unfolding decoded
  close_decodes = λ i. record {
    «open» = eqb (long_same r 0 0 h (omega arith) i) 1;
    section_len = long_other r 0 0 1 (λ e. absurd (omega arith)) i;
    work_len = long_other r 0 0 2 (λ e. absurd (omega arith)) i;
    types = low_other r 0 0 3 (λ e. absurd (omega arith)) i;
    enumerators = low_other r 0 0 4 (λ e. absurd (omega arith)) i;
    text_len = low_other r 0 0 5 (λ e. absurd (omega arith)) i;
    pointer_size = low_other r 0 0 6 (λ e. absurd (omega arith)) i;
    modes = low_other r 0 0 7 (λ e. absurd (omega arith)) i;
    visits = low_other r 0 0 8 (λ e. absurd (omega arith)) i;
  }

-- what the bytes say after a request, where text length and visits have 32 bits
abbrev pub Says : List ℕ → Call → Type 0
Says r c = c.session.text_len < 4294967296 → c.session.visits < 4294967296 → decoded (record_after c.answer c.session.visits r) ≡ c.session

module _ (r : List ℕ) (h : 128 ≤ length r) where
  closing : (c len v : ℕ) → 12 ≤ c → record_after (answer_of c len) v r ≡ put_reached (put_long r 0 0) len v
  unfolding record_after answer_of record_refused
  closing zero len v l = absurd (omega arith)
  closing (suc c) len v l = rw (le-ltb (suc c) 12 l, record_refused)

  -- what a call settles to
  settled_says : (decoded r).«open» ≡ true → (l : ℕ) (p : List ℕ) (n work : ℕ) (q : Reach) → Sane l p n q → Says r (settled (decoded r) work n q)
  unfolding settled record_after answer_of
  settled_says o l p n work _ (on len w t a b c d) small few = text_decodes r h len (visits_in w) small few ∙ ap (λ (x : Bool). with_text (decoded r) x len (visits_in w)) o
  settled_says o l p n work _ (off c len v t q a b e d) small few =
      let h₀ : 128 ≤ length (put_long r 0 0) = omega (arith, long_length r 0 0) in
      ap decoded (closing c len v q.0)
      ∙ text_decodes (put_long r 0 0) h₀ len v small few
      ∙ ap (λ (s : Session). with_text s s.«open» len v) (close_decodes r h)

  -- 11 and 10
  kept_says_11 : (v : ℕ) (w t : List ℕ) → Says r (unchanged (decoded r) (Refused 11 v) w t)
  unfolding record_after record_refused
  kept_says_11 v w t small few = refl

  kept_says_10 : (v : ℕ) (w t : List ℕ) → Says r (unchanged (decoded r) (Refused 10 v) w t)
  unfolding record_after record_refused
  kept_says_10 v w t small few = refl

current_open : (s : Session) (a b n : ℕ) → is_current s a b n ≡ true → s.«open» ≡ true
unfolding is_current
current_open s a b n e = first_so s.«open» (eqb s.section_len a && (eqb s.work_len b && leb s.text_len n)) e

module _ (r section w t : List ℕ) (h : 128 ≤ length r) where
  -- the record after a request for one id, and for all
  pub type_says : (id : ℕ) → Says r (type_call (decoded r) section w t id)
  type_says id = go (is_current (decoded r) (length section) (length w) (length t)) (ltb id (decoded r).types) refl refl
    where
      go : (q u : Bool) → is_current (decoded r) (length section) (length w) (length t) ≡ q → ltb id (decoded r).types ≡ u → Says r (type_call (decoded r) section w t id)
      go false u e f = subst (λ (c : Call). Says r c) (sym (type_not_current (decoded r) section w t id e)) (kept_says_11 r h (decoded r).text_len w t)
      go true false e f = subst (λ (c : Call). Says r c) (sym (type_not_below (decoded r) section w t id e (ltb-false id (decoded r).types f))) (kept_says_10 r h (decoded r).text_len w t)
      go true true e f =
          let fits : (decoded r).text_len ≤ length t = current_fits (decoded r) (length section) (length w) (length t) true (sym e) refl in
          subst (λ (c : Call). Says r c) (sym (type_settles (decoded r) section w t id e (ltb-true id (decoded r).types f)))
          (settled_says r h (current_open (decoded r) (length section) (length w) (length t) e) (decoded r).text_len (take (decoded r).text_len t) (length t) (length w)
          (requested (table_for (decoded r) section) section id (decoded r).text_len (decoded r).visits w t)
          (request_sane (decoded r).text_len (take (decoded r).text_len t) (length t) (decoded r).text_len t (le_refl (decoded r).text_len) fits refl refl (table_for (decoded r) section) section id (decoded r).visits w))

  pub types_say : Says r (types_call (decoded r) section w t)
  types_say = go (is_current (decoded r) (length section) (length w) (length t)) refl
    where
      go : (q : Bool) → is_current (decoded r) (length section) (length w) (length t) ≡ q → Says r (types_call (decoded r) section w t)
      go false e = subst (λ (c : Call). Says r c) (sym (types_not_current (decoded r) section w t e)) (kept_says_11 r h (decoded r).text_len w t)
      go true e =
          let fits : (decoded r).text_len ≤ length t = current_fits (decoded r) (length section) (length w) (length t) true (sym e) refl in
          subst (λ (c : Call). Says r c) (sym (types_settle (decoded r) section w t e))
          (settled_says r h (current_open (decoded r) (length section) (length w) (length t) e) (decoded r).text_len (take (decoded r).text_len t) (length t) (length w)
          (requested_from (table_for (decoded r) section) section ((table_for (decoded r) section).types - 1) 1 (decoded r).text_len w t)
          (from_sane (decoded r).text_len (take (decoded r).text_len t) (length t) (table_for (decoded r) section) section ((table_for (decoded r) section).types - 1) 1 (decoded r).text_len w t (le_refl (decoded r).text_len) fits refl refl))

-- ---- opening: a way to read a word back, of the words that are put one after another
module _ (g : List ℕ → ℕ → ℕ) (f : ℕ → ℕ) (other : (r : List ℕ) (i v k : ℕ) → k ≢ i → g (put_long r i v) k ≡ g r k) (same : (r : List ℕ) (i v : ℕ) → 128 ≤ length r → i < 16 → g (put_long r i v) i ≡ f v) where
  below : (r : List ℕ) (i : ℕ) (vs : List ℕ) (k : ℕ) → k < i → g (put_longs r i vs) k ≡ g r k
  unfolding put_longs
  below r i [] k l = refl
  below r i (v ∷ vs) k l = below (put_long r i v) (suc i) vs k (omega arith) ∙ other r i v k (λ e. absurd (omega arith))

  reads : (r : List ℕ) (i : ℕ) (vs : List ℕ) (j : ℕ) → 128 ≤ length r → i + length vs ≤ 16 → j < length vs → g (put_longs r i vs) (i + j) ≡ f (get_or vs j 0)
  unfolding put_longs
  reads r i [] j h l m = absurd (omega arith)
  reads r i (v ∷ vs) zero h l m =
      let e : i + 0 ≡ i = omega arith in
      ap (g (put_longs (put_long r i v) (suc i) vs)) e
      ∙ below (put_long r i v) (suc i) vs i (omega arith)
      ∙ same r i v h (omega arith)
  reads r i (v ∷ vs) (suc j) h l m =
      let e : i + suc j ≡ suc i + j = omega arith in
      ap (g (put_longs (put_long r i v) (suc i) vs)) e ∙ reads (put_long r i v) (suc i) vs j (omega (arith, long_length r i v)) (omega arith) (omega arith)

module _ (s : Session) (r : List ℕ) (h : 128 ≤ length r) where
  long_back : (j : ℕ) → j < 16 → get_long (encoded s r) j ≡ get_or (words_of s) j 0
  unfolding encoded
  long_back j l = let e : 0 + j ≡ j = omega arith in ap (get_long (put_longs r 0 (words_of s))) (sym e) ∙ reads get_long (λ v. v) long_other long_same r 0 (words_of s) j h (omega arith) l

  low_back : (j : ℕ) → j < 16 → get_word (encoded s r) (j * 2) ≡ get_or (words_of s) j 0 % 4294967296
  unfolding encoded
  low_back j l =
      let e : 0 + j ≡ j = omega arith in
      ap (λ (k : ℕ). get_word (put_longs r 0 (words_of s)) (k * 2)) (sym e)
      ∙ reads (λ b k. get_word b (k * 2)) (λ v. v % 4294967296) low_other low_same r 0 (words_of s) j h (omega arith) l

  -- the record that an accepted opening writes says the session that it opened
  pub opened_says : s.«open» ≡ true → s.types < 4294967296 → s.enumerators < 4294967296 → s.text_len < 4294967296 → s.pointer_size < 4294967296 → s.modes < 4294967296 → s.visits < 4294967296 → decoded (encoded s r) ≡ s
  unfolding decoded
  opened_says o a b c d e f =
      let ea : s.types % 4294967296 ≡ s.types = omega arith in
      let eb : s.enumerators % 4294967296 ≡ s.enumerators = omega arith in
      let ec : s.text_len % 4294967296 ≡ s.text_len = omega arith in
      let ed : s.pointer_size % 4294967296 ≡ s.pointer_size = omega arith in
      let ee : s.modes % 4294967296 ≡ s.modes = omega arith in
      let ef : s.visits % 4294967296 ≡ s.visits = omega arith in
      λ i. record {
        «open» = (ap (λ (x : ℕ). eqb x 1) (long_back 0 (omega arith)) ∙ sym o) i;
        section_len = long_back 1 (omega arith) i;
        work_len = long_back 2 (omega arith) i;
        types = (low_back 3 (omega arith) ∙ ea) i;
        enumerators = (low_back 4 (omega arith) ∙ eb) i;
        text_len = (low_back 5 (omega arith) ∙ ec) i;
        pointer_size = (low_back 6 (omega arith) ∙ ed) i;
        modes = (low_back 7 (omega arith) ∙ ee) i;
        visits = (low_back 8 (omega arith) ∙ ef) i;
      }

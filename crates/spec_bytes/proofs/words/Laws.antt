-- The two cases of `get_word` and of `put_word`, and what putting a word does to the length and to the other words.
-- Assumes nothing.
use Prim.Native.Nat.{ℕ, zero, suc, ◌+◌, ◌*◌, ◌/◌, ◌%◌, ◌<◌, ◌≤◌}
use mathlib.Core.Path.{◌≡◌, refl, ap, ◌∙◌, sym}
use mathlib.Core.List.{List, [], ◌∷◌}
use mathlib.Core.Bool.{Bool, true, false}
use mathlib.Core.Logic.{⊎_elim, ◌⊎◌, inl, inr, ◌≢◌}
use native.Mathlib.Omega.{arith}
use lib.ListN.{length, get_or, set, length-set, get_or-eq_default, replicate}
use lib.Seq.{ext_get_or, set_comm, get_or-set_same, get_or-set_other}
use lib.Dec.{ltb}
use borrow.Author.Tests.{lt-ltb, le-ltb, ltb-false}
use Rattle.std.proofs.lemmas.Bool.{cases_lt}
use Rattle.spec_bytes.specs.words.Words.{get_word, put_word, word_at, word_at_big, word_in, turn, join_at, join_big, set_word, pick_list, table, words, one_more, pick}

pub get_in : (b : List ℕ) (i : ℕ) → i < length b / 4 → get_word b i ≡ join_at b (i * 4)
unfolding get_word
get_in b i h = simp (lt-ltb _ _ h)

pub get_out : (b : List ℕ) (i : ℕ) → length b / 4 ≤ i → get_word b i ≡ 0
unfolding get_word
get_out b i h = simp (le-ltb _ _ h)

pub read_in : (b : List ℕ) (at : ℕ) → at + 3 < length b → word_at b at ≡ join_at b at
unfolding word_at
read_in b at h = simp (lt-ltb _ _ h)

pub read_out : (b : List ℕ) (at : ℕ) → length b ≤ at + 3 → word_at b at ≡ 0
unfolding word_at
read_out b at h = simp (le-ltb _ _ h)

pub read_big_in : (b : List ℕ) (at : ℕ) → at + 3 < length b → word_at_big b at ≡ join_big b at
unfolding word_at_big
read_big_in b at h = simp (lt-ltb _ _ h)

pub read_big_out : (b : List ℕ) (at : ℕ) → length b ≤ at + 3 → word_at_big b at ≡ 0
unfolding word_at_big
read_big_out b at h = simp (le-ltb _ _ h)

-- the one is the other, turned
pub lower : (a q : ℕ) → a < 256 → (a + q * 256) % 256 ≡ a
lower a q h = omega arith

turn_join : (a b c d : ℕ) → a < 256 → b < 256 → c < 256 → d < 256
    → turn (a + b * 256 + c * 65536 + d * 16777216) ≡ d + c * 256 + b * 65536 + a * 16777216
turn_join a b c d ha hb hc hd =
    let w : ℕ = a + b * 256 + c * 65536 + d * 16777216 in
    let w0 : w ≡ a + (b + (c + d * 256) * 256) * 256 = omega arith in
    let w1 : w / 256 ≡ b + (c + d * 256) * 256 = omega arith in
    let w2 : w / 65536 ≡ c + d * 256 = omega arith in
    let e3 : w / 16777216 ≡ d = omega arith in
    let e0 : w % 256 ≡ a = ap (λ (n : ℕ). n % 256) w0 ∙ lower a _ ha in
    let e1 : w / 256 % 256 ≡ b = ap (λ (n : ℕ). n % 256) w1 ∙ lower b _ hb in
    let e2 : w / 65536 % 256 ≡ c = ap (λ (n : ℕ). n % 256) w2 ∙ lower c d hc in
    (λ i. e0 i * 16777216 + e1 i * 65536 + e2 i * 256 + e3 i) ∙ omega arith

pub word_turned : (b : List ℕ) → ((i : ℕ) → get_or b i 0 < 256) → (at : ℕ) → turn (word_at b at) ≡ word_at_big b at
word_turned b h at =
    ⊎_elim
    (λ l. ap turn (read_in b at l) ∙ turn_join _ _ _ _ (h at) (h (at + 1)) (h (at + 2)) (h (at + 3)) ∙ sym (read_big_in b at l))
    (λ l. ap turn (read_out b at l) ∙ sym (read_big_out b at l))
    (cases_lt (at + 3) (length b))

-- in either order
module _ (b : List ℕ) (at : ℕ) (big : Bool) (w : ℕ) (e : w ≡ word_at b at) where
  pub word_big : ((i : ℕ) → get_or b i 0 < 256) → big ≡ true → (r : ℕ) → r ≡ turn w → r ≡ word_in big b at
  unfolding word_in
  word_big h g r f = rw g (f ∙ ap turn e ∙ word_turned b h at)

  pub word_little : big ≡ false → w ≡ word_in big b at
  unfolding word_in
  word_little g = rw g e

pub put_in : (b : List ℕ) (i v : ℕ) → i < length b / 4 → put_word b i v ≡ set_word b (i * 4) v
unfolding put_word
put_in b i v h = simp (lt-ltb _ _ h)

pub put_out : (b : List ℕ) (i v : ℕ) → length b / 4 ≤ i → put_word b i v ≡ b
unfolding put_word
put_out b i v h = simp (le-ltb _ _ h)

pub put_length : (b : List ℕ) (i v : ℕ) → length (put_word b i v) ≡ length b
unfolding put_word
put_length b i v = go (ltb i (length b / 4))
  where
    go : (t : Bool) → length (pick_list t (set_word b (i * 4) v) b) ≡ length b
    go true = simp length-set
    go false = refl

-- a number of 32 bits is the sum of its bytes
pub bytes_sum : (v : ℕ) → v % 256 + v / 256 % 256 * 256 + v / 65536 % 256 * 65536 + v / 16777216 * 16777216 ≡ v
bytes_sum v = omega arith

module _ (b : List ℕ) (at v : ℕ) (h : at + 3 < length b) where
  set_word_lem : join_at (set_word b at v) at ≡ v
  set_word_lem =
      let n01 : at ≢ at + 1 = omega arith in
      let n02 : at ≢ at + 2 = omega arith in
      let n03 : at ≢ at + 3 = omega arith in
      let n12 : at + 1 ≢ at + 2 = omega arith in
      let n13 : at + 1 ≢ at + 3 = omega arith in
      let n23 : at + 2 ≢ at + 3 = omega arith in
      let h0 : at < length b = omega arith in
      let h1 : at + 1 < length (set b at (v % 256)) = simp length-set (omega arith) in
      let h2 : at + 2 < length (set (set b at (v % 256)) (at + 1) (v / 256 % 256)) = simp length-set (omega arith) in
      let h3 : at + 3 < length (set (set (set b at (v % 256)) (at + 1) (v / 256 % 256)) (at + 2) (v / 65536 % 256)) = simp length-set (omega arith) in
      simp (get_or-set_other, get_or-set_same) (bytes_sum v)

  -- a byte outside the word is as it was
  set_else : (j d : ℕ) → j ≢ at → j ≢ at + 1 → j ≢ at + 2 → j ≢ at + 3 → get_or (set_word b at v) j d ≡ get_or b j d
  set_else j d n0 n1 n2 n3 = simp get_or-set_other

  set_other : (k : ℕ) → (k + 3 < at) ⊎ (at + 3 < k) → join_at (set_word b at v) k ≡ join_at b k
  set_other k (inl n) =
      rw (set_else k 0 (omega arith) (omega arith) (omega arith) (omega arith), set_else (k + 1) 0 (omega arith) (omega arith) (omega arith) (omega arith), set_else (k + 2) 0 (omega arith) (omega arith) (omega arith) (omega arith), set_else (k + 3) 0 (omega arith) (omega arith) (omega arith) (omega arith))
  set_other k (inr n) =
      rw (set_else k 0 (omega arith) (omega arith) (omega arith) (omega arith), set_else (k + 1) 0 (omega arith) (omega arith) (omega arith) (omega arith), set_else (k + 2) 0 (omega arith) (omega arith) (omega arith) (omega arith), set_else (k + 3) 0 (omega arith) (omega arith) (omega arith) (omega arith))

pub get_put_same : (b : List ℕ) (i v : ℕ) → i < length b / 4 → get_word (put_word b i v) i ≡ v
get_put_same b i v h =
    rw (put_in b i v h)
    (get_in _ _ (simp length-set h) ∙ set_word_lem b (i * 4) v (omega arith))

-- another word is as it was
pub get_put_other : (b : List ℕ) (i k v : ℕ) → k ≢ i → get_word (put_word b i v) k ≡ get_word b k
get_put_other b i k v n = ⊎_elim (λ h. rw (put_in b i v h) (inner h)) out (cases_lt i (length b / 4))
  where
    out : length b / 4 ≤ i → get_word (put_word b i v) k ≡ get_word b k
    out h = rw (put_out b i v h)

    apart : i < length b / 4 → ((k * 4) + 3 < i * 4) ⊎ (i * 4 + 3 < k * 4)
    apart h = ⊎_elim (λ l. inl (omega arith)) (λ l. inr (omega arith)) (cases_lt k i)

    inner : i < length b / 4 → get_word (set_word b (i * 4) v) k ≡ get_word b k
    inner h =
        ⊎_elim
        (λ l. get_in _ _ (simp length-set l) ∙ set_other b (i * 4) v (omega arith) (k * 4) (apart h) ∙ sym (get_in b k l))
        (λ l. get_out _ _ (simp length-set l) ∙ sym (get_out b k l))
        (cases_lt k (length b / 4))

-- the other view of the same: the list of the whole words
table_length : (f : ℕ → ℕ) (k n : ℕ) → length (table f k n) ≡ n
table_length f k zero = refl
table_length f k (suc n) = ap suc (table_length f (suc k) n)

table_at : (f : ℕ → ℕ) (k n i : ℕ) → i < n → get_or (table f k n) i 0 ≡ f (k + i)
table_at f k zero i h = absurd (omega arith)
table_at f k (suc n) zero h = let e : k ≡ k + 0 = omega arith in ap f e
table_at f k (suc n) (suc i) h = let e : suc k + i ≡ k + suc i = omega arith in table_at f (suc k) n i (omega arith) ∙ ap f e

pub words_length : (b : List ℕ) → length (words b) ≡ length b / 4
unfolding words
words_length b = table_length (get_word b) 0 (length b / 4)

pub words_get : (b : List ℕ) (i : ℕ) → get_or (words b) i 0 ≡ get_word b i
unfolding words
words_get b i =
    ⊎_elim
    (λ l. let z : 0 + i ≡ i = omega arith in table_at (get_word b) 0 (length b / 4) i l ∙ ap (get_word b) z)
    (λ l. get_or-eq_default (words b) 0 (omega (arith, words_length b)) ∙ sym (get_out b i l))
    (cases_lt i (length b / 4))

pub words_put : (b : List ℕ) (i v : ℕ) → words (put_word b i v) ≡ set (words b) i v
words_put b i v = ext_get_or 0 _ _ (same ∙ sym (length-set (words b) i v)) each
  where
    same : length (words (put_word b i v)) ≡ length (words b)
    same = words_length (put_word b i v) ∙ ap (λ (n : ℕ). n / 4) (put_length b i v) ∙ sym (words_length b)

    each : (k : ℕ) → k < length (words (put_word b i v)) → get_or (words (put_word b i v)) k 0 ≡ get_or (set (words b) i v) k 0
    each k h = words_get (put_word b i v) k ∙ ⊎_elim (λ l. other (omega arith)) up (cases_lt i k)
      where
        other : (k ≡ i → ⊥) → get_word (put_word b i v) k ≡ get_or (set (words b) i v) k 0
        other n = get_put_other b i k v n ∙ sym (words_get b k) ∙ sym (get_or-set_other (words b) i k v 0 n)

        here : k ≡ i → get_word (put_word b i v) k ≡ get_or (set (words b) i v) k 0
        here e =
            rw e (get_put_same b i v (omega (arith, words_length b, same)) ∙ sym (get_or-set_same (words b) i v 0 (omega (arith, same))))

        up : k ≤ i → get_word (put_word b i v) k ≡ get_or (set (words b) i v) k 0
        up l = ⊎_elim (λ m. other (omega arith)) (λ m. here (omega arith)) (cases_lt k i)

-- ---- a word put over a word
module _ (b : List ℕ) (at v : ℕ) (h : at + 3 < length b) where
  set_bytes : (get_or (set_word b at v) at 0 ≡ v % 256) × (get_or (set_word b at v) (at + 1) 0 ≡ v / 256 % 256) × (get_or (set_word b at v) (at + 2) 0 ≡ v / 65536 % 256) × (get_or (set_word b at v) (at + 3) 0 ≡ v / 16777216)
  set_bytes =
      let n01 : at ≢ at + 1 = omega arith in
      let n02 : at ≢ at + 2 = omega arith in
      let n03 : at ≢ at + 3 = omega arith in
      let n12 : at + 1 ≢ at + 2 = omega arith in
      let n13 : at + 1 ≢ at + 3 = omega arith in
      let n23 : at + 2 ≢ at + 3 = omega arith in
      let h0 : at < length b = omega arith in
      let h1 : at + 1 < length (set b at (v % 256)) = simp length-set (omega arith) in
      let h2 : at + 2 < length (set (set b at (v % 256)) (at + 1) (v / 256 % 256)) = simp length-set (omega arith) in
      let h3 : at + 3 < length (set (set (set b at (v % 256)) (at + 1) (v / 256 % 256)) (at + 2) (v / 65536 % 256)) = simp length-set (omega arith) in
      (simp (get_or-set_other, get_or-set_same), simp (get_or-set_other, get_or-set_same), simp (get_or-set_other, get_or-set_same), simp (get_or-set_other, get_or-set_same))

place : (at j : ℕ) → (P : Type 0) → (j ≡ at → P) → (j ≡ at + 1 → P) → (j ≡ at + 2 → P) → (j ≡ at + 3 → P) → ((j < at) ⊎ (at + 3 < j) → P) → P
place at j P p0 p1 p2 p3 p4 =
    ⊎_elim
    (λ a. p4 (inl a))
    (λ a. ⊎_elim (λ b. p0 (omega arith)) (λ b. ⊎_elim (λ c. p1 (omega arith)) (λ c. ⊎_elim (λ d. p2 (omega arith)) (λ d. ⊎_elim (λ e. p3 (omega arith)) (λ e. p4 (inr (omega arith))) (cases_lt j (at + 4))) (cases_lt j (at + 3))) (cases_lt j (at + 2))) (cases_lt j (at + 1)))
    (cases_lt j at)

module _ (b : List ℕ) (at u v : ℕ) (h : at + 3 < length b) where
  set_again : set_word (set_word b at u) at v ≡ set_word b at v
  set_again = ext_get_or 0 _ _ (simp length-set) each
    where
      k : at + 3 < length (set_word b at u)
      k = simp length-set h

      each : (j : ℕ) → j < length (set_word (set_word b at u) at v) → get_or (set_word (set_word b at u) at v) j 0 ≡ get_or (set_word b at v) j 0
      each j l =
          place at j _
          (λ e. rw e ((set_bytes (set_word b at u) at v k).0 ∙ sym (set_bytes b at v h).0))
          (λ e. rw e ((set_bytes (set_word b at u) at v k).1 ∙ sym (set_bytes b at v h).1))
          (λ e. rw e ((set_bytes (set_word b at u) at v k).2 ∙ sym (set_bytes b at v h).2))
          (λ e. rw e ((set_bytes (set_word b at u) at v k).3 ∙ sym (set_bytes b at v h).3))
          (⊎_elim
          (λ o. set_else (set_word b at u) at v k j 0 (omega arith) (omega arith) (omega arith) (omega arith) ∙ set_else b at u h j 0 (omega arith) (omega arith) (omega arith) (omega arith) ∙ sym (set_else b at v h j 0 (omega arith) (omega arith) (omega arith) (omega arith)))
          (λ o. set_else (set_word b at u) at v k j 0 (omega arith) (omega arith) (omega arith) (omega arith) ∙ set_else b at u h j 0 (omega arith) (omega arith) (omega arith) (omega arith) ∙ sym (set_else b at v h j 0 (omega arith) (omega arith) (omega arith) (omega arith))))

-- a byte put past a word
set_past : (b : List ℕ) (at v j x : ℕ) → at ≢ j → at + 1 ≢ j → at + 2 ≢ j → at + 3 ≢ j → set (set_word b at v) j x ≡ set_word (set b j x) at v
set_past b at v j x n0 n1 n2 n3 =
    let l1 : List ℕ = set b at (v % 256) in
    let l2 : List ℕ = set l1 (at + 1) (v / 256 % 256) in
    let l3 : List ℕ = set l2 (at + 2) (v / 65536 % 256) in
    set_comm l3 (at + 3) j (v / 16777216) x n3
    ∙ ap (λ (l : List ℕ). set l (at + 3) (v / 16777216))
    (set_comm l2 (at + 2) j (v / 65536 % 256) x n2
    ∙ ap (λ (l : List ℕ). set l (at + 2) (v / 65536 % 256))
    (set_comm l1 (at + 1) j (v / 256 % 256) x n1
    ∙ ap (λ (l : List ℕ). set l (at + 1) (v / 256 % 256)) (set_comm b at j (v % 256) x n0)))

module _ (b : List ℕ) (at k u v : ℕ) where
  set_swap : (k + 3 < at) ⊎ (at + 3 < k) → set_word (set_word b at u) k v ≡ set_word (set_word b k v) at u
  set_swap o =
      let p : (j : ℕ) → k ≤ j → j ≤ k + 3 → (x : ℕ) (c : List ℕ) → set (set_word c at u) j x ≡ set_word (set c j x) at u = λ j l m x c. ⊎_elim (λ d. set_past c at u j x (omega arith) (omega arith) (omega arith) (omega arith)) (λ d. set_past c at u j x (omega arith) (omega arith) (omega arith) (omega arith)) o in
      let l1 : List ℕ = set b k (v % 256) in
      let l2 : List ℕ = set l1 (k + 1) (v / 256 % 256) in
      let l3 : List ℕ = set l2 (k + 2) (v / 65536 % 256) in
      ap (λ (l : List ℕ). set (set (set l (k + 1) (v / 256 % 256)) (k + 2) (v / 65536 % 256)) (k + 3) (v / 16777216)) (p k (omega arith) (omega arith) (v % 256) b)
      ∙ ap (λ (l : List ℕ). set (set l (k + 2) (v / 65536 % 256)) (k + 3) (v / 16777216)) (p (k + 1) (omega arith) (omega arith) (v / 256 % 256) l1)
      ∙ ap (λ (l : List ℕ). set l (k + 3) (v / 16777216)) (p (k + 2) (omega arith) (omega arith) (v / 65536 % 256) l2)
      ∙ p (k + 3) (omega arith) (omega arith) (v / 16777216) l3

-- the second store to a word is what stays
pub put_again : (b : List ℕ) (i u v : ℕ) → put_word (put_word b i u) i v ≡ put_word b i v
put_again b i u v = ⊎_elim inside (λ l. rw (put_out b i u l)) (cases_lt i (length b / 4))
  where
    inside : i < length b / 4 → put_word (put_word b i u) i v ≡ put_word b i v
    inside l =
        put_in (put_word b i u) i v (rw (put_length b i u) l)
        ∙ ap (λ (c : List ℕ). set_word c (i * 4) v) (put_in b i u l)
        ∙ set_again b (i * 4) u v (omega arith)
        ∙ sym (put_in b i v l)

-- stores to two words, in either order
pub put_swap : (b : List ℕ) (i k u v : ℕ) → k ≢ i → put_word (put_word b i u) k v ≡ put_word (put_word b k v) i u
put_swap b i k u v n = ⊎_elim (λ l. ⊎_elim (both l) (other l) (cases_lt k (length b / 4))) (λ l. rw (put_out b i u l) (sym (put_out _ i u (rw (put_length b k v) l)))) (cases_lt i (length b / 4))
  where
    other : i < length b / 4 → length b / 4 ≤ k → put_word (put_word b i u) k v ≡ put_word (put_word b k v) i u
    other l m = put_out _ k v (rw (put_length b i u) m) ∙ ap (λ (c : List ℕ). put_word c i u) (sym (put_out b k v m))

    both : i < length b / 4 → k < length b / 4 → put_word (put_word b i u) k v ≡ put_word (put_word b k v) i u
    both l m =
        put_in (put_word b i u) k v (rw (put_length b i u) m)
        ∙ ap (λ (c : List ℕ). set_word c (k * 4) v) (put_in b i u l)
        ∙ set_swap b (i * 4) (k * 4) u v (⊎_elim (λ q. inl (omega arith)) (λ q. inr (omega arith)) (cases_lt k i))
        ∙ ap (λ (c : List ℕ). set_word c (i * 4) u) (sym (put_in b k v m))
        ∙ sym (put_in (put_word b k v) i u (rw (put_length b k v) l))

-- what reading and storing a word cite
pub ruleset steps = (get_in, get_out, read_in, read_out, put_in, put_out)

-- ---- one more, in a word
pub more_is : (n : ℕ) → n < 4294967295 → one_more n ≡ n + 1
unfolding one_more
more_is n h = ap (λ (t : Bool). pick t (n + 1) n) (lt-ltb n 4294967295 h)

pub more_stuck : (n : ℕ) → 4294967295 ≤ n → one_more n ≡ n
unfolding one_more
more_stuck n h = ap (λ (t : Bool). pick t (n + 1) n) (le-ltb n 4294967295 h)

pub more_some : (n : ℕ) → 1 ≤ one_more n
unfolding one_more
more_some n = go (ltb n 4294967295) refl
  where
    go : (b : Bool) → ltb n 4294967295 ≡ b → 1 ≤ pick b (n + 1) n
    go true q = omega arith
    go false q = omega (arith, ltb-false n 4294967295 q)

pub more_most : (n : ℕ) → one_more n ≤ n + 1
unfolding one_more
more_most n = go (ltb n 4294967295)
  where
    go : (b : Bool) → pick b (n + 1) n ≤ n + 1
    go true = omega arith
    go false = omega arith

pub more_least : (n : ℕ) → n ≤ one_more n
unfolding one_more
more_least n = go (ltb n 4294967295)
  where
    go : (b : Bool) → n ≤ pick b (n + 1) n
    go true = omega arith
    go false = omega arith

-- a list of copies of d, read with d past its end
pub get_replicate : {A : Type 0} (d : A) (k x : ℕ) → get_or (replicate k d) x d ≡ d
get_replicate d zero x = refl
get_replicate d (suc k) zero = refl
get_replicate d (suc k) (suc x) = get_replicate d k x

-- a place of a list after one was set
pub set_one : (l : List ℕ) (i n j : ℕ) → (get_or (set l i n) j 0 ≡ get_or l j 0) ⊎ ((j ≡ i) × (get_or (set l i n) j 0 ≡ n))
set_one [] i n j = inl refl
set_one (x ∷ l) zero n zero = inr (refl, refl)
set_one (x ∷ l) zero n (suc j) = inl refl
set_one (x ∷ l) (suc i) n zero = inl refl
set_one (x ∷ l) (suc i) n (suc j) = ⊎_elim (λ e. inl e) (λ e. inr (ap suc e.0, e.1)) (set_one l i n j)

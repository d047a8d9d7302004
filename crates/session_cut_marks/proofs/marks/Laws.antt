-- A law for each return of the code, and for each loop its start, its turn and its end. Assumes nothing.
use Prim.Native.Nat.{ℕ, zero, suc, ◌+◌, ◌-◌, ◌*◌, ◌/◌, ◌%◌, ◌<◌, ◌≤◌}
use native.Mathlib.Omega.{arith}
use native.Mathlib.Numerals.{add-one}
use mathlib.Core.Path.{◌≡◌, refl, sym, ◌∙◌, ap}
use mathlib.Core.Bool.{Bool, true, false}
use mathlib.Core.List.{List, []}
use lib.ListN.{length, get_or, set, drop}
use Rattle.std.specs.Simd.{first_chunks}
use Rattle.std.specs.Int.{from_le_bytes, w32}
use Rattle.std.proofs.lemmas.List.{get_or-take, get_or-drop}
use lib.Dec.{ltb, eqb}
use borrow.Author.Tests.{eq-eqb, ne_eqb, eqb-true, lt-ltb, le-ltb, ltb-true}
use Rattle.spec_bytes.specs.words.Words.{get_word, join_at, pick}
use Rattle.spec_type_table.specs.declared.types.TypeTable.{TypeTable}
use Rattle.btf_open_causes.specs.references.Followed.{type_count, entry_at, kind_at, place_of, count_at, id_at, followed_count, followed_id}
use Rattle.btf_open_causes.specs.references.Zeros.{zeros}
use Rattle.btf_open_causes.proofs.references.Zeros.{zeros_less}
use Rattle.session_cut_marks.specs.tags.Tags.{tagged_to, numbers_of}
use Rattle.session_cut_marks.specs.marks.Marks.{Heap, heap, marks_in, pushed, pushed_to, weight, turned, closed, all_zero, asked, reached_marks, ids_of}

-- ---- push
module _ (m st : List ℕ) (d y : ℕ) where
  pub push_void : y ≡ 0 → heap m st d ≡ pushed (heap m st d) y
  unfolding pushed
  push_void e = rw (eq-eqb y 0 e, pushed)

  module _ (n : y ≡ 0 → ⊥) where
    pub push_past : length m ≤ y → heap m st d ≡ pushed (heap m st d) y
    unfolding pushed
    push_past l = rw (ne_eqb y 0 n, pushed, le-ltb y (length m) l)

    module _ (l : y < length m) where
      pub push_full : length st ≤ d → heap m st d ≡ pushed (heap m st d) y
      unfolding pushed
      push_full f = rw (ne_eqb y 0 n, pushed, lt-ltb y (length m) l, le-ltb d (length st) f)

      module _ (f : d < length st) where
        pub push_marked : (get_or m y 0 ≡ 0 → ⊥) → heap m st d ≡ pushed (heap m st d) y
        unfolding pushed
        push_marked k = rw (ne_eqb y 0 n, pushed, lt-ltb y (length m) l, lt-ltb d (length st) f, ne_eqb (get_or m y 0) 0 k)

        pub push_new : get_or m y 0 ≡ 0 → heap (set m y 1) (set st d y) (d + 1) ≡ pushed (heap m st d) y
        unfolding pushed
        push_new k = rw (ne_eqb y 0 n, pushed, lt-ltb y (length m) l, lt-ltb d (length st) f, eq-eqb (get_or m y 0) 0 k, add-one)

-- ---- loops that push
pub none_pushed : (f : ℕ → ℕ) (h : Heap) → h ≡ pushed_to f h 0
unfolding pushed_to
none_pushed f h = refl

pub more_pushed : (f : ℕ → ℕ) (h : Heap) (k : ℕ) (m st : List ℕ) (d : ℕ) (m' st' : List ℕ) (r y : ℕ) → heap m st d ≡ pushed_to f h k → y ≡ f k → heap m' st' r ≡ pushed (heap m st d) y → heap m' st' r ≡ pushed_to f h (k + 1)
unfolding pushed_to
more_pushed f h k m st d m' st' r y e q p = rw add-one (p ∙ (λ i. pushed (e i) (q i)))

-- the given ids as chunks of four bytes
chunk_byte : (n k j : ℕ) (s : List ℕ) → k < n → j < 4 → get_or (get_or (first_chunks 4 n s) k []) j 0 ≡ get_or s (k * 4 + j) 0
chunk_byte zero k j s h l = absurd (omega (arith, h))
chunk_byte (suc n) zero j s h l = let e : j ≡ 0 * 4 + j = omega arith in get_or-take 4 s j 0 l ∙ ap (λ i. get_or s i 0) e
chunk_byte (suc n) (suc k) j s h l =
    let b : k < n = omega (arith, h) in
    let e : 4 + (k * 4 + j) ≡ suc k * 4 + j = omega arith in
    chunk_byte n k j (drop 4 s) b l ∙ get_or-drop 4 s (k * 4 + j) 0 ∙ ap (λ i. get_or s i 0) e

pub chunk_word : (s : List ℕ) (cs : List (List ℕ)) → cs ≡ first_chunks 4 (length s / 4) s → (k : ℕ) → k < length s / 4
    → from_le_bytes w32 (get_or cs k []) ≡ get_word s k
unfolding get_word
chunk_word s cs f k h =
    let byte : (j : ℕ) → j < 4 → get_or (get_or cs k []) j 0 ≡ get_or s (k * 4 + j) 0 =
    λ j l. ap (λ x. get_or (get_or x k []) j 0) f ∙ chunk_byte (length s / 4) k j s h l in
    let e : k * 4 + 0 ≡ k * 4 = omega arith in
    let c0 : get_or (get_or cs k []) 0 0 ≡ get_or s (k * 4) 0 = byte 0 (omega arith) ∙ ap (λ i. get_or s i 0) e in
    let c1 : get_or (get_or cs k []) 1 0 ≡ get_or s (k * 4 + 1) 0 = byte 1 (omega arith) in
    let c2 : get_or (get_or cs k []) 2 0 ≡ get_or s (k * 4 + 2) 0 = byte 2 (omega arith) in
    let c3 : get_or (get_or cs k []) 3 0 ≡ get_or s (k * 4 + 3) 0 = byte 3 (omega arith) in
    (λ i. c0 i + c1 i * 256 + c2 i * 65536 + c3 i * 16777216) ∙ sym (ap (λ b. pick b (join_at s (k * 4)) 0) (lt-ltb k (length s / 4) h))

pub all_followed : (b : TypeTable) (s start : List ℕ) (x e : ℕ) → e ≡ entry_at b start x → (n k : ℕ) → n ≡ count_at b s (e % 32) (e / 32) → k ≤ n → n ≤ k → (h h' : Heap) → h' ≡ pushed_to (id_at b s (e % 32) (e / 32)) h k
    → h' ≡ pushed_to (followed_id b s start x) h (followed_count b s start x)
unfolding followed_id followed_count kind_at place_of
all_followed b s start x e q n k c l g h h' p =
    let z : k ≡ n = omega (arith, l, g) in
    p ∙ ap (pushed_to (id_at b s (e % 32) (e / 32)) h) (z ∙ c) ∙ (λ i. pushed_to (id_at b s (q i % 32) (q i / 32)) h (count_at b s (q i % 32) (q i / 32)))

-- ---- close: each turn has a lesser weight
abbrev weigh : Heap → ℕ
weigh (heap m st d) = zeros m + zeros m + d

push_light : (h : Heap) (y : ℕ) → weight (pushed h y) ≤ weight h
unfolding pushed weight
push_light (heap m st d) y = go (eqb y 0) (ltb y (length m)) refl (ltb d (length st)) (eqb (get_or m y 0) 0) refl
  where
    go : (a b : Bool) → ltb y (length m) ≡ b → (c e : Bool) → eqb (get_or m y 0) 0 ≡ e
        → weigh (elim a as (λ q. Heap) [
          | true ↦ heap m st d
          | false ↦ elim b as (λ q. Heap) [
            | false ↦ heap m st d
            | true ↦ elim c as (λ q. Heap) [
              | false ↦ heap m st d
              | true ↦ elim e as (λ q. Heap) [ true ↦ heap (set m y 1) (set st d y) (suc d) | false ↦ heap m st d ]
            ]
          ]
        ]) ≤ zeros m + zeros m + d
    go true b p c e q = omega arith
    go false false p c e q = omega arith
    go false true p false e q = omega arith
    go false true p true false q = omega arith
    go false true p true true q = omega (arith, zeros_less m y 1 (ltb-true y (length m) p) (eqb-true (get_or m y 0) 0 q) (omega arith))

to_light : (f : ℕ → ℕ) (h : Heap) (n : ℕ) → weight (pushed_to f h n) ≤ weight h
unfolding pushed_to
to_light f h zero = omega arith
to_light f h (suc n) = omega (arith, push_light (pushed_to f h n) (f n), to_light f h n)

one_less : (m st : List ℕ) (d : ℕ) → suc (weight (heap m st d)) ≡ weight (heap m st (suc d))
unfolding weight
one_less m st d = omega arith

module _ (b : TypeTable) (s start : List ℕ) where
  pub turn_light : (m st : List ℕ) (d : ℕ) → weight (turned b s start (heap m st (suc d))) < weight (heap m st (suc d))
  unfolding turned
  turn_light m st d =
      let a : weight (pushed_to (followed_id b s start (get_or st d 0)) (heap m st d) (followed_count b s start (get_or st d 0))) ≤ weight (heap m st d) = to_light (followed_id b s start (get_or st d 0)) (heap m st d) (followed_count b s start (get_or st d 0)) in
      omega (arith, a, one_less m st d)

  -- more turns than the weight change nothing
  enough : (n k : ℕ) (h : Heap) → weight h ≤ n → weight h ≤ k → closed b s start n h ≡ closed b s start k h
  unfolding closed
  enough zero zero h l q = refl
  enough zero (suc k) (heap m st zero) l q = refl
  enough zero (suc k) (heap m st (suc d)) l q = absurd (omega (arith, l, turn_light m st d))
  enough (suc n) zero (heap m st zero) l q = refl
  enough (suc n) zero (heap m st (suc d)) l q = absurd (omega (arith, q, turn_light m st d))
  enough (suc n) (suc k) (heap m st zero) l q = refl
  enough (suc n) (suc k) (heap m st (suc d)) l q =
      enough n k (turned b s start (heap m st (suc d))) (omega (arith, l, turn_light m st d)) (omega (arith, q, turn_light m st d))

  close_suc : (m st : List ℕ) (d : ℕ) → closed b s start (weight (heap m st (suc d))) (heap m st (suc d)) ≡ closed b s start (weight (turned b s start (heap m st (suc d)))) (turned b s start (heap m st (suc d)))
  unfolding closed
  close_suc m st d =
      let w : ℕ = weight (heap m st (suc d)) in
      let e : w ≡ suc (w - 1) = omega (arith, turn_light m st d) in
      ap (λ (n : ℕ). closed b s start n (heap m st (suc d))) e
      ∙ enough (w - 1) (weight (turned b s start (heap m st (suc d)))) (turned b s start (heap m st (suc d))) (omega (arith, turn_light m st d)) (omega arith)

  -- a turn of the loop: the stack had a last id
  module _ (m st : List ℕ) (top : ℕ) (some : 0 < top) (m' st' : List ℕ) (r x : ℕ) (taken : x ≡ get_or st (top - 1) 0)
      (p : heap m' st' r ≡ pushed_to (followed_id b s start x) (heap m st (top - 1)) (followed_count b s start x)) where
    turn_is : heap m' st' r ≡ turned b s start (heap m st (suc (top - 1)))
    unfolding turned
    turn_is = p ∙ (λ i. pushed_to (followed_id b s start (taken i)) (heap m st (top - 1)) (followed_count b s start (taken i)))

    top_is : suc (top - 1) ≡ top
    top_is = omega (arith, some)

    pub close_more : closed b s start (weight (heap m st top)) (heap m st top) ≡ closed b s start (weight (heap m' st' r)) (heap m' st' r)
    close_more =
        ap (λ (t : ℕ). closed b s start (weight (heap m st t)) (heap m st t)) (sym top_is)
        ∙ close_suc m st (top - 1)
        ∙ ap (λ (h : Heap). closed b s start (weight h) h) (sym turn_is)

    pub close_less : weight (heap m' st' r) < weight (heap m st top)
    close_less =
        let a : weight (heap m' st' r) ≡ weight (turned b s start (heap m st (suc (top - 1)))) = ap weight turn_is in
        let c : weight (heap m st (suc (top - 1))) ≡ weight (heap m st top) = ap (λ (t : ℕ). weight (heap m st t)) top_is in
        omega (arith, a, c, turn_light m st (top - 1))

  pub close_end : (m st : List ℕ) (top : ℕ) → top ≤ 0 → (w : Heap) → w ≡ closed b s start (weight (heap m st top)) (heap m st top) → heap m st top ≡ w
  unfolding closed
  close_end m st top l w e =
      let z : top ≡ 0 = omega (arith, l) in
      ap (heap m st) z ∙ sym (e ∙ ap (λ (t : ℕ). closed b s start (weight (heap m st t)) (heap m st t)) z ∙ stay (weight (heap m st 0)))
    where
      stay : (n : ℕ) → closed b s start n (heap m st 0) ≡ heap m st 0
      stay zero = refl
      stay (suc n) = refl

-- ---- all of it
pub ids_are : (b : TypeTable) (s start given m m₁ st₁ : List ℕ) (d : ℕ) (m₂ st₂ : List ℕ) (d₂ : ℕ) (m₃ m₄ : List ℕ) → heap m₁ st₁ d ≡ pushed_to (get_word given) (heap m all_zero 0) (length given / 4)
    → heap m₂ st₂ d₂ ≡ closed b s start (weight (heap m₁ st₁ d)) (heap m₁ st₁ d) → m₃ ≡ tagged_to b s start m₂ (type_count b) → m₄ ≡ numbers_of m₃ → m₄ ≡ ids_of b s start given m
unfolding ids_of reached_marks asked
ids_are b s start given m m₁ st₁ d m₂ st₂ d₂ m₃ m₄ e f g h =
    h ∙ ap numbers_of (g ∙ ap (λ (l : List ℕ). tagged_to b s start l (type_count b)) (ap marks_in f ∙ ap (λ (q : Heap). marks_in (closed b s start (weight q) q)) e))

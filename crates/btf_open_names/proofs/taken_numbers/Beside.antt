-- The lists are the same with the table beside them, and leave it alone. Assumes nothing.
use Prim.Native.Nat.{ℕ, zero, suc, ◌+◌, ◌-◌}
use mathlib.Core.Path.{◌≡◌, refl, ap, ap₂, ◌∙◌, sym}
use mathlib.Core.List.{List}
use mathlib.Core.Bool.{Bool, true, false}
use mathlib.Core.Logic.{◌≢◌}
use native.Mathlib.Omega.{arith}
use lib.Dec.{eqb}
use Rattle.spec_bytes.specs.words.Words.{get_word, put_word}
use Rattle.spec_bytes.proofs.words.Laws.{get_put_other}
use Rattle.spec_type_table.specs.declared.types.TypeTable.{TypeTable}
use Rattle.spec_type_table.specs.Cells.{class_p}
use Rattle.spec_type_table.specs.Numbers.{head_p, next_p, taken_p}
use Rattle.btf_open_names.specs.name_classes.Classes.{noughts, record_p, key_in}
use Rattle.btf_open_names.proofs.name_classes.Keys.{place_apart}
use Rattle.btf_open_names.specs.filled_work.Takers.{suffix_on, any_suffix, name_in, base_from, listed_on, on_base, taker_put, takers_put}
use Rattle.btf_open_names.specs.hash_table.Hashed.{first_p, later_p, first_of, later_of, over, has_room, table_in, TableIf}
use Rattle.btf_open_names.proofs.hash_table.Places.{get_over, put_over, over_over, keys_stay, keys_over}
use Rattle.btf_open_names.proofs.hash_table.Laws.{table_none, table_is, table_clear}

-- ---- what a step keeps, seen through P
module _ {A : Type 0} (P : List ℕ → A) (b : TypeTable) (s : List ℕ) (n : ℕ) (puts : (c h m : ℕ) (w : List ℕ) → P (listed_on b.types c h m w) ≡ P w) where
  on_keeps : (h c : ℕ) (w : List ℕ) → P (on_base b s n h w c) ≡ P w
  unfolding on_base
  on_keeps h zero w = refl
  on_keeps h (suc c) w = puts (suc c) h (suffix_on (key_in b s w (suc c)) (key_in b s w h)) w

  one_keeps : (h : ℕ) (w : List ℕ) → P (taker_put b s n h w) ≡ P w
  unfolding taker_put
  one_keeps h w = go (eqb (get_word w (class_p b.types h)) h) (any_suffix (name_in (key_in b s w h)))
    where
      go : (p q : Bool) → P (elim p as (λ z. List ℕ) [ true ↦ elim q as (λ z. List ℕ) [ true ↦ on_base b s n h w (base_from (key_in b s w) h (n - 1) 1) | false ↦ w ] | false ↦ w ]) ≡ P w
      go true true = on_keeps h (base_from (key_in b s w) h (n - 1) 1) w
      go true false = refl
      go false q = refl

-- a word that is none of a list
module _ (t i : ℕ) (oh : (h : ℕ) → i ≢ head_p t h) (on : (h : ℕ) → i ≢ next_p t h) (ot : (h : ℕ) → i ≢ taken_p t h) where
  put_word_lem : (c h m : ℕ) (w : List ℕ) → get_word (listed_on t c h m w) i ≡ get_word w i
  unfolding listed_on
  put_word_lem c h m w =
      get_put_other (put_word (put_word w (next_p t h) (get_word w (head_p t c))) (taken_p t h) m) (head_p t c) i h (oh c)
      ∙ get_put_other (put_word w (next_p t h) (get_word w (head_p t c))) (taken_p t h) i m (ot h)
      ∙ get_put_other w (next_p t h) i (get_word w (head_p t c)) (on h)

module _ (b : TypeTable) (s : List ℕ) (n h : ℕ) (w : List ℕ) where
  first_kept : (j : ℕ) → get_word (taker_put b s n h w) (first_p b.types j) ≡ get_word w (first_p b.types j)
  first_kept j =
      let t : ℕ = b.types in
      one_keeps (λ (u : List ℕ). get_word u (first_p t j)) b s n
      (put_word_lem t (first_p t j) (place_apart t 11 5 7 3 (omega arith) j) (place_apart t 11 5 8 4 (omega arith) j) (place_apart t 11 5 14 6 (omega arith) j)) h w

  later_kept : (j : ℕ) → get_word (taker_put b s n h w) (later_p b.types j) ≡ get_word w (later_p b.types j)
  later_kept j =
      let t : ℕ = b.types in
      one_keeps (λ (u : List ℕ). get_word u (later_p t j)) b s n
      (put_word_lem t (later_p t j) (place_apart t 13 7 7 3 (omega arith) j) (place_apart t 13 7 8 4 (omega arith) j) (place_apart t 13 7 14 6 (omega arith) j)) h w

  keys_kept : key_in b s (taker_put b s n h w) ≡ key_in b s w
  keys_kept =
      let t : ℕ = b.types in
      keys_stay b s (taker_put b s n h w) w (λ j. one_keeps (λ (u : List ℕ). get_word u (record_p t j)) b s n
      (put_word_lem t (record_p t j) (place_apart t 0 0 7 3 (omega arith) j) (place_apart t 0 0 8 4 (omega arith) j) (place_apart t 0 0 14 6 (omega arith) j)) h w)

  -- the table stands as it stood
  pub table_kept : (t : Bool) (u : List ℕ) → TableIf t b s w n → u ≡ taker_put b s n h w → TableIf t b s u n
  table_kept t u f e z =
      let k : key_in b s w ≡ key_in b s u = sym (ap (key_in b s) e ∙ keys_kept) in
      record {
        firsts = λ j l. ap (λ (v : List ℕ). get_word v (first_p b.types j)) e ∙ first_kept j ∙ (f z).firsts j l ∙ ap (λ (g : ℕ → List ℕ). first_of g n 1 j) k;
        laters = λ c l. ap (λ (v : List ℕ). get_word v (later_p b.types c)) e ∙ later_kept c ∙ (f z).laters c l ∙ ap (λ (g : ℕ → List ℕ). later_of g n 1 c) k;
      }

-- ---- the lists with words of a table over them
module _ (b : TypeTable) (s : List ℕ) (n : ℕ) (m : ℕ) (first later : ℕ → ℕ) where
  abbrev t : ℕ
  t = b.types

  abbrev laid : List ℕ → List ℕ
  laid = over t m first later

  head_get : (c : ℕ) (w : List ℕ) → get_word (laid w) (head_p t c) ≡ get_word w (head_p t c)
  head_get c w = get_over t m first later w (head_p t c) (place_apart t 7 3 11 5 (omega arith) c) (place_apart t 7 3 13 7 (omega arith) c)

  listed_over : (c h x : ℕ) (w : List ℕ) → listed_on t c h x (laid w) ≡ laid (listed_on t c h x w)
  unfolding listed_on
  listed_over c h x w =
      let old : ℕ = get_word w (head_p t c) in
      let w₁ : List ℕ = put_word w (next_p t h) old in
      let w₂ : List ℕ = put_word w₁ (taken_p t h) x in
      let p₁ : put_word (laid w) (next_p t h) (get_word (laid w) (head_p t c)) ≡ laid w₁ =
      ap (λ (v : ℕ). put_word (laid w) (next_p t h) v) (head_get c w) ∙ put_over t m first later w (next_p t h) (place_apart t 8 4 11 5 (omega arith) h) (place_apart t 8 4 13 7 (omega arith) h) old in
      let p₂ : put_word (laid w₁) (taken_p t h) x ≡ laid w₂ = put_over t m first later w₁ (taken_p t h) (place_apart t 14 6 11 5 (omega arith) h) (place_apart t 14 6 13 7 (omega arith) h) x in
      ap (λ (u : List ℕ). put_word (put_word u (taken_p t h) x) (head_p t c) h) p₁
      ∙ ap (λ (u : List ℕ). put_word u (head_p t c) h) p₂
      ∙ put_over t m first later w₂ (head_p t c) (place_apart t 7 3 11 5 (omega arith) c) (place_apart t 7 3 13 7 (omega arith) c) h

  on_over : (h c : ℕ) (w : List ℕ) → on_base b s n h (laid w) c ≡ laid (on_base b s n h w c)
  unfolding on_base
  on_over h zero w = refl
  on_over h (suc c) w =
      ap (λ (k : ℕ → List ℕ). listed_on t (suc c) h (suffix_on (k (suc c)) (k h)) (laid w)) (keys_over b s m first later w)
      ∙ listed_over (suc c) h (suffix_on (key_in b s w (suc c)) (key_in b s w h)) w

  one_over : (h : ℕ) (w : List ℕ) → taker_put b s n h (laid w) ≡ laid (taker_put b s n h w)
  unfolding taker_put
  one_over h w =
      ap₂ (λ (x : ℕ) (k : ℕ → List ℕ). step (laid w) (eqb x h) (any_suffix (name_in (k h))) (base_from k h (n - 1) 1))
      (get_over t m first later w (class_p t h) (place_apart t 5 1 11 5 (omega arith) h) (place_apart t 5 1 13 7 (omega arith) h))
      (keys_over b s m first later w)
      ∙ go (eqb (get_word w (class_p t h)) h) (any_suffix (name_in (key_in b s w h))) (base_from (key_in b s w) h (n - 1) 1)
    where
      step : List ℕ → Bool → Bool → ℕ → List ℕ
      step u p q c = elim p as (λ z. List ℕ) [ true ↦ elim q as (λ z. List ℕ) [ true ↦ on_base b s n h u c | false ↦ u ] | false ↦ u ]

      go : (p q : Bool) (c : ℕ) → step (laid w) p q c ≡ laid (step w p q c)
      go true true c = on_over h c w
      go true false c = refl
      go false q c = refl

  all_over : (k : ℕ) (w : List ℕ) → takers_put b s n k (laid w) ≡ laid (takers_put b s n k w)
  unfolding takers_put
  all_over zero w = refl
  all_over (suc k) w = ap (takers_put b s n k) (one_over (suc k) w) ∙ all_over k (taker_put b s n (suc k) w)

-- ---- put_takers
module _ (b : TypeTable) (s : List ℕ) (e : ℕ) (w₀ : List ℕ) (r : Bool) (q : r ≡ has_room b.types e w₀) (u₀ : List ℕ) (g : u₀ ≡ table_in b e s w₀)
    (w : List ℕ) (n : ℕ) (f : w ≡ takers_put b s n (n - 1) u₀) where
  pub without_table : r ≡ false → w ≡ takers_put b s n (n - 1) w₀
  without_table z = f ∙ ap (takers_put b s n (n - 1)) (g ∙ sym (table_none b s e w₀ r q z))

  pub table_cleared : r ≡ true → n ≡ b.types + e → (v : List ℕ) → v ≡ over b.types n noughts noughts w → v ≡ takers_put b s n (n - 1) w₀
  table_cleared z en v p =
      let t : ℕ = b.types in
      let F : ℕ → ℕ = first_of (key_in b s w₀) n 1 in
      let L : ℕ → ℕ = later_of (key_in b s w₀) n 1 in
      let u : List ℕ = takers_put b s n (n - 1) w₀ in
      let m : w ≡ over t n F L u = f ∙ ap (takers_put b s n (n - 1)) (g ∙ table_is b s e w₀ r q z n en) ∙ all_over b s n n F L (n - 1) w₀ in
      p
      ∙ ap (over t n noughts noughts) m
      ∙ over_over t n F L u
      ∙ sym (all_over b s n n noughts noughts (n - 1) w₀)
      ∙ ap (takers_put b s n (n - 1)) (table_clear b s e w₀ r q z n en)

-- The table, holder by holder. Assumes nothing.
use Prim.Native.Nat.{ℕ, zero, suc, ◌+◌, ◌-◌, ◌*◌, ◌/◌, ◌%◌, ◌<◌, ◌≤◌}
use mathlib.Core.Path.{◌≡◌, refl, ap, ap₂, ◌∙◌, sym}
use mathlib.Core.List.{List}
use mathlib.Core.Bool.{Bool, true, false}
use mathlib.Core.Logic.{⊎_elim, ◌≢◌}
use native.Mathlib.Omega.{arith}
use native.Mathlib.Nat.{mod-lt}
use lib.ListN.{length}
use lib.Dec.{ltb, eqb}
use borrow.Author.Tests.{eq-eqb, ne_eqb, eqb-true, eqb-false, lt-ltb, le-ltb}
use Rattle.std.proofs.lemmas.Bool.{cases_lt}
use Rattle.spec_bytes.specs.words.Words.{get_word, put_word}
use Rattle.spec_type_table.specs.declared.types.TypeTable.{TypeTable}
use Rattle.btf_open_names.specs.name_classes.Classes.{fill, noughts, key_of, key_in}
use Rattle.btf_open_names.specs.name_classes.Table.{hash_key, bucket_of}
use Rattle.btf_open_names.proofs.name_classes.Fill.{fill_length, get_else, get_fill, put_else, put_fill, fill_same}
use Rattle.std.proofs.Common.{Option, None, Some, is_some}
use Rattle.btf_open_names.specs.holders.Holders.{holders_in}
use Rattle.btf_open_names.specs.hash_table.Hashed.{first_p, later_p, space_in, falls, first_from, first_of, later_of, over, table_from, put_first, all_zero, has_room, table_in, Table}
use Rattle.btf_open_names.proofs.hash_table.Places.{first_one, later_one, first_in, later_in, later_first, over_zero, keys_over}

-- ---- who stands in a bucket
module _ (key : ℕ → List ℕ) (n : ℕ) where
  pub falls_in : (j c : ℕ) → space_in (key c) ≢ 2 → bucket_of key n c ≡ j → falls key n j c ≡ true
  unfolding falls
  falls_in j c o e = ap (λ (t : Bool). elim t as (λ z. Bool) [ true ↦ false | false ↦ eqb (bucket_of key n c) j ]) (ne_eqb (space_in (key c)) 2 o) ∙ eq-eqb (bucket_of key n c) j e

  falls_none : (j c : ℕ) → space_in (key c) ≡ 2 → falls key n j c ≡ false
  unfolding falls
  falls_none j c e = ap (λ (t : Bool). elim t as (λ z. Bool) [ true ↦ false | false ↦ eqb (bucket_of key n c) j ]) (eq-eqb (space_in (key c)) 2 e)

  falls_else : (j c : ℕ) → bucket_of key n c ≢ j → falls key n j c ≡ false
  unfolding falls
  falls_else j c o = go (eqb (space_in (key c)) 2)
    where
      go : (t : Bool) → elim t as (λ z. Bool) [ true ↦ false | false ↦ eqb (bucket_of key n c) j ] ≡ false
      go true = refl
      go false = ne_eqb (bucket_of key n c) j o

  pub falls_out : (j c : ℕ) → falls key n j c ≡ true → (space_in (key c) ≢ 2) × (bucket_of key n c ≡ j)
  unfolding falls
  falls_out j c = go (eqb (space_in (key c)) 2) refl
    where
      go : (t : Bool) → eqb (space_in (key c)) 2 ≡ t → elim t as (λ z. Bool) [ true ↦ false | false ↦ eqb (bucket_of key n c) j ] ≡ true → (space_in (key c) ≢ 2) × (bucket_of key n c ≡ j)
      go true q r = let z : ◌≡◌ {A = ℕ} 0 1 = cc in absurd (omega arith)
      go false q r = (eqb-false (space_in (key c)) 2 q, eqb-true (bucket_of key n c) j r)

  -- ---- the first of a bucket
  first_split : (j f c : ℕ) (t : Bool) → falls key n j c ≡ t → first_from key n j (suc f) c ≡ elim t as (λ z. ℕ) [ true ↦ c | false ↦ first_from key n j f (suc c) ]
  unfolding first_from
  first_split j f c t e = ap (λ (x : Bool). elim x as (λ z. ℕ) [ true ↦ c | false ↦ first_from key n j f (suc c) ]) e

  first_at : (j k : ℕ) (t : Bool) → k < n → falls key n j k ≡ t → first_of key n k j ≡ elim t as (λ z. ℕ) [ true ↦ k | false ↦ first_of key n (suc k) j ]
  unfolding first_of
  first_at j k t l e = let q : n - k ≡ suc (n - suc k) = omega arith in ap (λ (f : ℕ). first_from key n j f k) q ∙ first_split j (n - suc k) k t e

  first_past : (j : ℕ) → first_of key n n j ≡ 0
  unfolding first_of first_from
  first_past j = let q : n - n ≡ 0 = omega arith in ap (λ (f : ℕ). first_from key n j f n) q

  -- ---- the next of a bucket
  later_by : (k c : ℕ) (p q : Bool) → ltb c k ≡ p → eqb (space_in (key c)) 2 ≡ q → later_of key n k c ≡ elim p as (λ z. ℕ) [ true ↦ 0 | false ↦ elim q as (λ z. ℕ) [ true ↦ 0 | false ↦ first_of key n (suc c) (bucket_of key n c) ] ]
  unfolding later_of
  later_by k c p q e f = λ i. elim (e i) as (λ z. ℕ) [ true ↦ 0 | false ↦ elim (f i) as (λ z. ℕ) [ true ↦ 0 | false ↦ first_of key n (suc c) (bucket_of key n c) ] ]

  later_low : (k c : ℕ) → c < k → later_of key n k c ≡ 0
  later_low k c l = later_by k c true (eqb (space_in (key c)) 2) (lt-ltb c k l) refl

  later_none : (k c : ℕ) → k ≤ c → space_in (key c) ≡ 2 → later_of key n k c ≡ 0
  later_none k c l e = later_by k c false true (le-ltb c k l) (eq-eqb (space_in (key c)) 2 e)

  pub later_is : (k c : ℕ) → k ≤ c → space_in (key c) ≢ 2 → later_of key n k c ≡ first_of key n (suc c) (bucket_of key n c)
  later_is k c l e = later_by k c false false (le-ltb c k l) (ne_eqb (space_in (key c)) 2 e)

  later_else : (k c : ℕ) → c ≢ k → later_of key n (suc k) c ≡ later_of key n k c
  later_else k c o =
      ⊎_elim
      (λ l. later_low (suc k) c (omega arith) ∙ sym (later_low k c l))
      (λ l. later_by (suc k) c false (eqb (space_in (key c)) 2) (le-ltb c (suc k) (omega arith)) refl ∙ sym (later_by k c false (eqb (space_in (key c)) 2) (le-ltb c k l) refl))
      (cases_lt c k)

-- ---- the work, holder by holder
module _ (key : ℕ → List ℕ) (t n : ℕ) (w₀ : List ℕ) where
  abbrev state : ℕ → List ℕ
  state k = over t n (first_of key n k) (later_of key n k) w₀

  state_start : ((h : ℕ) → h < n → get_word w₀ (first_p t h) ≡ 0) → ((h : ℕ) → h < n → get_word w₀ (later_p t h) ≡ 0) → state n ≡ w₀
  unfolding over
  state_start zf zl =
      fill_same (first_p t) (first_of key n n) noughts (fill (later_p t) (later_of key n n) w₀ n) n (λ j l. first_past key n j)
      ∙ ap (λ (u : List ℕ). fill (first_p t) noughts u n) (fill_same (later_p t) (later_of key n n) noughts w₀ n (λ c l. later_low key n n c l))
      ∙ over_zero t n w₀ zf zl

  state_none : (k : ℕ) → k < n → space_in (key k) ≡ 2 → state (suc k) ≡ state k
  unfolding over
  state_none k l e =
      fill_same (first_p t) (first_of key n (suc k)) (first_of key n k) (fill (later_p t) (later_of key n (suc k)) w₀ n) n (λ j m. sym (first_at key n j k false l (falls_none key n j k e)))
      ∙ ap (λ (u : List ℕ). fill (first_p t) (first_of key n k) u n) (fill_same (later_p t) (later_of key n (suc k)) (later_of key n k) w₀ n
      (λ c m. ⊎_elim (λ d. ⊎_elim (λ g. later_else key n k c (omega arith)) (λ g. let q : c ≡ k = omega arith in later_low key n (suc k) c (omega arith) ∙ sym (later_none key n k c (omega arith) (ap (λ (x : ℕ). space_in (key x)) q ∙ e))) (cases_lt k c)) (λ d. later_else key n k c (omega arith)) (cases_lt k (suc c))))

  module _ (k : ℕ) (l : k < n) (o : space_in (key k) ≢ 2) where
    abbrev bucket : ℕ
    bucket = bucket_of key n k

    bucket_less : bucket < n
    unfolding bucket_of
    bucket_less = mod-lt (hash_key (key k)) (omega arith)

    state_some : first_p t bucket < length w₀ / 4 → put_word (put_word (state (suc k)) (later_p t k) (get_word (state (suc k)) (first_p t bucket))) (first_p t bucket) k ≡ state k
    unfolding over
    state_some m =
        let F : List ℕ → List ℕ = λ u. fill (first_p t) (first_of key n (suc k)) u n in
        let L : List ℕ = fill (later_p t) (later_of key n (suc k)) w₀ n in
        let L' : List ℕ = fill (later_p t) (later_of key n k) w₀ n in
        let old : get_word (F L) (first_p t bucket) ≡ first_of key n (suc k) bucket = get_fill (first_p t) (first_one t) (first_of key n (suc k)) L bucket n bucket_less (rw (fill_length (later_p t) (later_of key n (suc k)) w₀ n) m) in
        let new : get_word (F L) (first_p t bucket) ≡ later_of key n k k = old ∙ sym (later_is key n k k (omega arith) o) in
        let p : put_word (F L) (later_p t k) (get_word (F L) (first_p t bucket)) ≡ F L' =
        put_else (first_p t) (first_of key n (suc k)) L (later_p t k) (get_word (F L) (first_p t bucket)) n (λ h q. later_first t k h)
        ∙ ap F (put_fill (later_p t) (later_one t) (later_of key n (suc k)) (later_of key n k) w₀ k (get_word (F L) (first_p t bucket)) n l new (λ c d. later_else key n k c d)) in
        ap (λ (u : List ℕ). put_word u (first_p t bucket) k) p
        ∙ put_fill (first_p t) (first_one t) (first_of key n (suc k)) (first_of key n k) L' bucket k n bucket_less
        (sym (first_at key n bucket k true l (falls_in key n bucket k o refl)))
        (λ j d. sym (first_at key n j k false l (falls_else key n j k (λ q. d (sym q)))))

-- ---- put_first
module _ (b : TypeTable) (s : List ℕ) (n c : ℕ) (w : List ℕ) where
  put_by : (t : Bool) → eqb (space_in (key_in b s w c)) 2 ≡ t → put_first b s n c w ≡ elim t as (λ z. List ℕ) [ true ↦ w | false ↦ put_word (put_word w (later_p b.types c) (get_word w (first_p b.types (bucket_of (key_in b s w) n c)))) (first_p b.types (bucket_of (key_in b s w) n c)) c ]
  unfolding put_first
  put_by t e = ap (λ (x : Bool). elim x as (λ z. List ℕ) [ true ↦ w | false ↦ put_word (put_word w (later_p b.types c) (get_word w (first_p b.types (bucket_of (key_in b s w) n c)))) (first_p b.types (bucket_of (key_in b s w) n c)) c ]) e

  module _ (x p : ℕ) (k : key_of s x p ≡ key_in b s w c) where
    space_is : space_in (key_in b s w c) ≡ x
    unfolding key_of
    space_is = ap space_in (sym k)

    pub put_none : x ≡ 2 → w ≡ put_first b s n c w
    put_none e = sym (put_by true (eq-eqb (space_in (key_in b s w c)) 2 (space_is ∙ e)))

    bucket_is : (r : ℕ) → r ≡ hash_key (key_of s x p) → r % n ≡ bucket_of (key_in b s w) n c
    unfolding bucket_of
    bucket_is r e = ap (λ (v : ℕ). v % n) (e ∙ ap hash_key k)

    pub put_some : (r old : ℕ) (w₁ w₂ : List ℕ) → (x ≡ 2 → ⊥) → r ≡ hash_key (key_of s x p) → old ≡ get_word w (first_p b.types (r % n)) → w₁ ≡ put_word w (later_p b.types c) old
        → w₂ ≡ put_word w₁ (first_p b.types (r % n)) c → w₂ ≡ put_first b s n c w
    put_some r old w₁ w₂ o er eo e₁ e₂ =
        e₂
        ∙ ap (λ (u : List ℕ). put_word u (first_p b.types (r % n)) c) (e₁ ∙ ap (put_word w (later_p b.types c)) eo)
        ∙ ap (λ (j : ℕ). put_word (put_word w (later_p b.types c) (get_word w (first_p b.types j))) (first_p b.types j) c) (bucket_is r er)
        ∙ sym (put_by false (ne_eqb (space_in (key_in b s w c)) 2 (λ q. o (sym space_is ∙ q))))

-- ---- all_zero
module _ (at : ℕ → ℕ) (w : List ℕ) where
  zero_all : (n : ℕ) → all_zero at w n ≡ true → (h : ℕ) → h < n → get_word w (at h) ≡ 0
  unfolding all_zero
  zero_all zero e h l = absurd (omega arith)
  zero_all (suc n) e h l = go (λ r m. zero_all n r h m) (eqb (get_word w (at n)) 0) refl e
    where
      go : (all_zero at w n ≡ true → h < n → get_word w (at h) ≡ 0) → (t : Bool) → eqb (get_word w (at n)) 0 ≡ t → elim t as (λ z. Bool) [ true ↦ all_zero at w n | false ↦ false ] ≡ true → get_word w (at h) ≡ 0
      go below true q r = ⊎_elim (below r) (λ m. let d : h ≡ n = omega arith in ap (λ (x : ℕ). get_word w (at x)) d ∙ eqb-true (get_word w (at n)) 0 q) (cases_lt h n)
      go below false q r = let z : ◌≡◌ {A = ℕ} 0 1 = cc in absurd (omega arith)

-- ---- has_room
-- what it says: the holders can be numbered, the work is long enough, both words of each are 0
pub record Room (t e : ℕ) (w : List ℕ) : Type 0 where
  pub numbered : e ≤ 4294967295 - t
  pub long : t * 16 + e * 8 ≤ length w / 4
  pub firsts : (h : ℕ) → h < t + e → get_word w (first_p t h) ≡ 0
  pub laters : (h : ℕ) → h < t + e → get_word w (later_p t h) ≡ 0

module _ (t e : ℕ) (w : List ℕ) where
  abbrev room : Bool → Bool → Bool → Bool → Bool
  room p q x y = elim p as (λ z. Bool) [ true ↦ false | false ↦ elim q as (λ z. Bool) [ true ↦ false | false ↦ elim x as (λ z. Bool) [ true ↦ y | false ↦ false ] ] ]

  room_by : (p q x y : Bool) → ltb (4294967295 - t) e ≡ p → ltb (length w / 4) (t * 16 + e * 8) ≡ q → all_zero (first_p t) w (t + e) ≡ x → all_zero (later_p t) w (t + e) ≡ y → has_room t e w ≡ room p q x y
  unfolding has_room
  room_by p q x y ep eq ex ey = λ i. room (ep i) (eq i) (ex i) (ey i)

  pub room_none : false ≡ is_some (holders_in t e w) → false ≡ has_room t e w
  unfolding has_room holders_in
  room_none = go (ltb (4294967295 - t) e) (ltb (length w / 4) (t * 16 + e * 8)) (all_zero (first_p t) w (t + e)) (all_zero (later_p t) w (t + e))
    where
      go : (p q x y : Bool) → false ≡ is_some (elim p as (λ z. Option ℕ) [ true ↦ None | false ↦ elim q as (λ z. Option ℕ) [ true ↦ None | false ↦ Some (t + e) ] ]) → false ≡ room p q x y
      go true q x y z = refl
      go false true x y z = refl
      go false false x y z = absurd (cc)

  module _ (few : e ≤ 4294967295 - t) where
    module _ (long : t * 16 + e * 8 ≤ length w / 4) (x : Bool) (ex : x ≡ all_zero (first_p t) w (t + e)) where
      pub room_used : x ≡ false → false ≡ has_room t e w
      room_used z = sym (room_by false false false _ (le-ltb (4294967295 - t) e few) (le-ltb (length w / 4) (t * 16 + e * 8) long) (sym ex ∙ z) refl)

      pub room_last : (y : Bool) → x ≡ true → y ≡ all_zero (later_p t) w (t + e) → y ≡ has_room t e w
      room_last y z ey = sym (room_by false false true y (le-ltb (4294967295 - t) e few) (le-ltb (length w / 4) (t * 16 + e * 8) long) (sym ex ∙ z) (sym ey))

  pub room_is : has_room t e w ≡ true → Room t e w
  unfolding has_room
  room_is = go (ltb (4294967295 - t) e) (ltb (length w / 4) (t * 16 + e * 8)) (all_zero (first_p t) w (t + e)) (all_zero (later_p t) w (t + e)) refl refl refl refl
    where
      no : ◌≡◌ {A = Bool} false true → Room t e w
      no r = let z : ◌≡◌ {A = ℕ} 0 1 = cc in absurd (omega arith)

      go : (p q x y : Bool) → ltb (4294967295 - t) e ≡ p → ltb (length w / 4) (t * 16 + e * 8) ≡ q → all_zero (first_p t) w (t + e) ≡ x → all_zero (later_p t) w (t + e) ≡ y → room p q x y ≡ true → Room t e w
      go true q x y ep eq ex ey r = no r
      go false true x y ep eq ex ey r = no r
      go false false false y ep eq ex ey r = no r
      go false false true y ep eq ex ey r =
          record {
            numbered = ⊎_elim (λ l. absurd (false_not (sym ep ∙ lt-ltb (4294967295 - t) e l))) (λ l. l) (cases_lt (4294967295 - t) e);
            long = ⊎_elim (λ l. absurd (false_not (sym eq ∙ lt-ltb (length w / 4) (t * 16 + e * 8) l))) (λ l. l) (cases_lt (length w / 4) (t * 16 + e * 8));
            firsts = zero_all (first_p t) w (t + e) ex;
            laters = zero_all (later_p t) w (t + e) (ey ∙ r);
          }
        where
          false_not : ◌≡◌ {A = Bool} false true → ⊥
          false_not z = let d : ◌≡◌ {A = ℕ} 0 1 = cc in omega arith

-- ---- make_table
over_none : (t n : ℕ) (f g : ℕ → ℕ) (w : List ℕ) → n ≡ 0 → over t n f g w ≡ w
unfolding over fill
over_none t n f g w e = ap (λ (x : ℕ). over t x f g w) e

module _ (b : TypeTable) (s : List ℕ) (e : ℕ) (w₀ : List ℕ) where
  in_by : (t : Bool) → has_room b.types e w₀ ≡ t → table_in b e s w₀ ≡ elim t as (λ z. List ℕ) [ true ↦ table_from b s (b.types + e) 1 w₀ | false ↦ w₀ ]
  unfolding table_in
  in_by t q = ap (λ (x : Bool). elim x as (λ z. List ℕ) [ true ↦ table_from b s (b.types + e) 1 w₀ | false ↦ w₀ ]) q

  pub table_none : (r : Bool) → r ≡ has_room b.types e w₀ → r ≡ false → w₀ ≡ table_in b e s w₀
  table_none r q z = sym (in_by false (sym q ∙ z))

  module _ (r : Bool) (q : r ≡ has_room b.types e w₀) (z : r ≡ true) (n : ℕ) (en : n ≡ b.types + e) where
    room_here : Room b.types e w₀
    room_here = room_is b.types e w₀ (sym q ∙ z)

    pub table_start : w₀ ≡ table_from b s n n w₀
    unfolding table_from
    table_start = sym (state_start (key_in b s w₀) b.types n w₀ (λ h l. room_here.firsts h (omega arith)) (λ h l. room_here.laters h (omega arith)))

    table_keys : (k : ℕ) (w : List ℕ) → w ≡ table_from b s n k w₀ → key_in b s w ≡ key_in b s w₀
    unfolding table_from
    table_keys k w f = ap (key_in b s) f ∙ keys_over b s n (first_of (key_in b s w₀) n k) (later_of (key_in b s w₀) n k) w₀

    pub table_turn : (k : ℕ) (w u : List ℕ) → 1 < k → k ≤ n → w ≡ table_from b s n k w₀ → u ≡ put_first b s n (k - 1) w → u ≡ table_from b s n (k - 1) w₀
    unfolding table_from
    table_turn k w u m l f g = go (eqb (space_in (key (k - 1))) 2) refl
      where
        key : ℕ → List ℕ
        key = key_in b s w₀

        t : ℕ
        t = b.types

        here : w ≡ over t n (first_of key n (suc (k - 1))) (later_of key n (suc (k - 1))) w₀
        here = let p : k ≡ suc (k - 1) = omega arith in f ∙ ap (λ (x : ℕ). over t n (first_of key n x) (later_of key n x) w₀) p

        same : space_in (key_in b s w (k - 1)) ≡ space_in (key (k - 1))
        same = ap (λ (f : ℕ → List ℕ). space_in (f (k - 1))) (table_keys k w f)

        go : (p : Bool) → eqb (space_in (key (k - 1))) 2 ≡ p → u ≡ over t n (first_of key n (k - 1)) (later_of key n (k - 1)) w₀
        go true p =
            g
            ∙ put_by b s n (k - 1) w true (ap (λ (x : ℕ). eqb x 2) same ∙ p)
            ∙ here
            ∙ state_none key t n w₀ (k - 1) (omega arith) (eqb-true (space_in (key (k - 1))) 2 p)
        go false p =
            g
            ∙ put_by b s n (k - 1) w false (ap (λ (x : ℕ). eqb x 2) same ∙ p)
            ∙ ap₂ (λ (v : List ℕ) (j : ℕ). put_word (put_word v (later_p t (k - 1)) (get_word v (first_p t j))) (first_p t j) (k - 1)) here (ap (λ (f : ℕ → List ℕ). bucket_of f n (k - 1)) (table_keys k w f))
            ∙ state_some key t n w₀ (k - 1) (omega arith) (eqb-false (space_in (key (k - 1))) 2 p) (omega (arith, first_in t e (bucket_of key n (k - 1)) (rw (← en) (bucket_less key t n w₀ (k - 1) (omega arith) (eqb-false (space_in (key (k - 1))) 2 p))), room_here.long))

    pub table_end : (k : ℕ) (w : List ℕ) → k ≤ 1 → 1 ≤ k + (1 - n) → w ≡ table_from b s n k w₀ → w ≡ table_in b e s w₀
    unfolding table_from
    table_end k w l m f =
        f
        ∙ ⊎_elim
        (λ a. let p : k ≡ 1 = omega arith in ap (λ (x : ℕ). table_from b s n x w₀) p)
        (λ a. nothing a)
        (cases_lt 0 n)
        ∙ ap (λ (x : ℕ). table_from b s x 1 w₀) en
        ∙ sym (in_by true (sym q ∙ z))
      where
        nothing : n ≤ 0 → table_from b s n k w₀ ≡ table_from b s n 1 w₀
        nothing a = let p : n ≡ 0 = omega arith in over_none b.types n (first_of (key_in b s w₀) n k) (later_of (key_in b s w₀) n k) w₀ p ∙ sym (over_none b.types n (first_of (key_in b s w₀) n 1) (later_of (key_in b s w₀) n 1) w₀ p)

    pub table_is : table_in b e s w₀ ≡ over b.types n (first_of (key_in b s w₀) n 1) (later_of (key_in b s w₀) n 1) w₀
    unfolding table_from
    table_is = in_by true (sym q ∙ z) ∙ ap (λ (x : ℕ). table_from b s x 1 w₀) (sym en)

    -- nothing of it is left once it is cleared
    pub table_clear : over b.types n noughts noughts w₀ ≡ w₀
    table_clear = over_zero b.types n w₀ (λ h l. room_here.firsts h (omega arith)) (λ h l. room_here.laters h (omega arith))

    -- what stands in it
    pub table_stands : (w : List ℕ) → w ≡ table_in b e s w₀ → Table b s w n
    unfolding table_from over
    table_stands w f =
        let g : w ≡ table_from b s n 1 w₀ = f ∙ table_is in
        let F : ℕ → ℕ = first_of (key_in b s w₀) n 1 in
        let L : ℕ → ℕ = later_of (key_in b s w₀) n 1 in
        let t : ℕ = b.types in
        let U : List ℕ = fill (later_p t) L w₀ n in
        record {
          firsts = λ j l. ap (λ (u : List ℕ). get_word u (first_p t j)) g
              ∙ get_fill (first_p t) (first_one t) F U j n l (rw (fill_length (later_p t) L w₀ n) (omega (arith, first_in t e j (rw (← en) l), room_here.long)))
              ∙ ap (λ (k : ℕ → List ℕ). first_of k n 1 j) (sym (table_keys 1 w g));
          laters = λ c l. ap (λ (u : List ℕ). get_word u (later_p t c)) g
              ∙ get_else (first_p t) F U (later_p t c) n (λ h q. later_first t c h)
              ∙ get_fill (later_p t) (later_one t) L w₀ c n l (omega (arith, later_in t e c (rw (← en) l), room_here.long))
              ∙ ap (λ (k : ℕ → List ℕ). later_of k n 1 c) (sym (table_keys 1 w g));
        }

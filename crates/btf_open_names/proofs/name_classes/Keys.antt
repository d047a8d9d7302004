-- The words of the holders stand apart, and their keys stay while the classes are found. Assumes nothing.
use Prim.Native.Nat.{ℕ, zero-le, ◌+◌, ◌-◌, ◌*◌, ◌/◌, ◌%◌, ◌<◌, ◌≤◌}
use mathlib.Core.Path.{◌≡◌, refl, ap, ap₂, ◌∙◌, sym, fun_ext}
use mathlib.Core.List.{List, [], ◌∷◌}
use mathlib.Core.Bool.{Bool, true, false}
use mathlib.Core.Logic.{⊎_elim, ◌≢◌}
use native.Mathlib.Omega.{arith}
use lib.ListN.{length, get_or}
use lib.Dec.{ltb}
use Rattle.std.proofs.Common.{Option, None, Some, is_some}
use Rattle.btf_open_names.specs.holders.Holders.{holders_in}
use borrow.Author.Tests.{lt-ltb, le-ltb, ne_eqb}
use Rattle.std.proofs.lemmas.Bool.{cases_lt}
use Rattle.spec_bytes.specs.words.Words.{get_word}
use Rattle.spec_type_table.specs.declared.types.TypeTable.{TypeTable}
use Rattle.spec_type_table.specs.Cells.{place_of, class_p, count_p}
use Rattle.spec_type_table.specs.Records.{section_word, kind_of}
use Rattle.spec_type_table.proofs.Laws.{place_type, place_enum}
use Rattle.spec_type_table.specs.Names.{name_at}
use Rattle.btf_open_names.specs.name_classes.Same.{same_list}
use Rattle.btf_open_names.specs.name_classes.Classes.{class_of, fill, noughts, with_classes, record_p, bucket_p, link_p, is_id_among, space_of, space_at, name_of, key_of, key_in, table_classed}
use Rattle.btf_open_names.specs.name_classes.Table.{hash_key, bucket_of, Places, Ready, Finds, placed, state_of}
use Rattle.btf_open_names.proofs.name_classes.Names.{same_from, same_heads, other_heads}
use Rattle.btf_open_names.proofs.name_classes.Fill.{get_else}
use Rattle.btf_open_names.proofs.name_classes.Laws as laws

-- ---- places
module _ (t f g : ℕ) where
  pub place_one : f < 16 → g < 8 → (i j : ℕ) → place_of t f g i ≡ place_of t f g j → i ≡ j
  place_one p q i j e =
      ⊎_elim
      (λ a. ⊎_elim (λ b. omega (arith, place_type t f g i a, place_type t f g j b)) (λ b. omega (arith, place_type t f g i a, place_enum t f g j b)) (cases_lt j t))
      (λ a. ⊎_elim (λ b. omega (arith, place_enum t f g i a, place_type t f g j b)) (λ b. omega (arith, place_enum t f g i a, place_enum t f g j b)) (cases_lt j t))
      (cases_lt i t)

  pub place_in : f < 16 → g < 8 → (e h : ℕ) → h < t + e → place_of t f g h < t * 16 + e * 8
  place_in p q e h l = ⊎_elim (λ a. omega (arith, place_type t f g h a)) (λ a. omega (arith, place_enum t f g h a)) (cases_lt h t)

-- word f or g of a holder, and word f' or g', are two
abbrev Apart : (f g f' g' : ℕ) → Type 0
Apart f g f' g' = (f < 16) × (f' < 16) × (g < 8) × (g' < 8) × (f ≢ f') × (g ≢ g')

pub place_apart : (t f g f' g' : ℕ) → Apart f g f' g' → (i j : ℕ) → place_of t f g i ≢ place_of t f' g' j
place_apart t f g f' g' p i j e =
    ⊎_elim
    (λ a. ⊎_elim (λ b. omega (arith, place_type t f g i a, place_type t f' g' j b)) (λ b. omega (arith, place_type t f g i a, place_enum t f' g' j b)) (cases_lt j t))
    (λ a. ⊎_elim (λ b. omega (arith, place_enum t f g i a, place_type t f' g' j b)) (λ b. omega (arith, place_enum t f g i a, place_enum t f' g' j b)) (cases_lt j t))
    (cases_lt i t)

module _ (t : ℕ) where
  pub places : Places (class_p t) (bucket_p t) (link_p t)
  places =
      record {
        class_one = place_one t 5 1 (omega arith) (omega arith);
        bucket_one = place_one t 7 3 (omega arith) (omega arith);
        link_one = place_one t 8 4 (omega arith) (omega arith);
        bucket_class = place_apart t 7 3 5 1 (omega arith);
        link_class = place_apart t 8 4 5 1 (omega arith);
        bucket_link = place_apart t 7 3 8 4 (omega arith);
      }

  -- the places of records are none of those that are filled
  record_class : (i j : ℕ) → record_p t i ≢ class_p t j
  record_class = place_apart t 0 0 5 1 (omega arith)

  record_bucket : (i j : ℕ) → record_p t i ≢ bucket_p t j
  record_bucket = place_apart t 0 0 7 3 (omega arith)

  record_link : (i j : ℕ) → record_p t i ≢ link_p t j
  record_link = place_apart t 0 0 8 4 (omega arith)

  -- nor are the counts
  pub count_one : (i j : ℕ) → count_p t i ≡ count_p t j → i ≡ j
  count_one = place_one t 6 2 (omega arith) (omega arith)

  pub class_count : (i j : ℕ) → class_p t i ≢ count_p t j
  class_count = place_apart t 5 1 6 2 (omega arith)

  pub count_bucket : (i j : ℕ) → count_p t i ≢ bucket_p t j
  count_bucket = place_apart t 6 2 7 3 (omega arith)

  pub count_link : (i j : ℕ) → count_p t i ≢ link_p t j
  count_link = place_apart t 6 2 8 4 (omega arith)

-- ---- spaces
module _ (k : ℕ) where
  pub space_8 : k ≡ 8 → 1 ≡ space_of k
  unfolding space_of is_id_among
  space_8 e = rw e

  pub space_19 : k ≡ 19 → 0 ≡ space_of k
  unfolding space_of is_id_among
  space_19 e = rw e

  pub space_4_7 : 4 ≤ k → k < 8 → 0 ≡ space_of k
  unfolding space_of is_id_among
  space_4_7 l m =
      ⊎_elim
      (λ a. ⊎_elim (λ b. let e : k ≡ 7 = omega arith in rw e) (λ b. let e : k ≡ 6 = omega arith in rw e) (cases_lt 6 k))
      (λ a. ⊎_elim (λ b. let e : k ≡ 5 = omega arith in rw e) (λ b. let e : k ≡ 4 = omega arith in rw e) (cases_lt 4 k))
      (cases_lt 5 k)

  pub space_else : (k ≡ 4 → ⊥) → (k ≡ 5 → ⊥) → (k ≡ 6 → ⊥) → (k ≡ 7 → ⊥) → (k ≡ 19 → ⊥) → (k ≡ 8 → ⊥) → 2 ≡ space_of k
  unfolding space_of is_id_among
  space_else a b c d e f = rw (ne_eqb k 4 a, is_id_among, ne_eqb k 5 b, ne_eqb k 6 c, ne_eqb k 7 d, ne_eqb k 19 e, ne_eqb k 8 f)

  pub space_high : (k ≡ 19 → ⊥) → (k ≡ 8 → ⊥) → 8 ≤ k → 2 ≡ space_of k
  space_high a b l = space_else (λ e. omega arith) (λ e. omega arith) (λ e. omega arith) (λ e. omega arith) a b

-- ---- keys: a space, and a name if there is a space
module _ (s : List ℕ) where
  pub key_some : (x p : ℕ) → (x ≡ 2 → ⊥) → key_of s x p ≡ x ∷ name_at s p
  unfolding key_of
  key_some x p n = rw (ne_eqb x 2 n, key_of)

  key_none : (x p : ℕ) → x ≡ 2 → key_of s x p ≡ 2 ∷ []
  unfolding key_of
  key_none x p e = rw e

  module _ (x y p q : ℕ) where
    pub keys_other : (x ≡ y → ⊥) → false ≡ same_list (key_of s x p) (key_of s y q)
    unfolding key_of
    keys_other n = sym (other_heads x y _ _ n)

    pub keys_none : x ≡ y → x ≡ 2 → true ≡ same_list (key_of s x p) (key_of s y q)
    keys_none e z = same_from _ _ (key_none x p z ∙ sym (key_none y q (sym e ∙ z)))

    pub keys_same : (r : Bool) → x ≡ y → (x ≡ 2 → ⊥) → r ≡ same_list (name_at s p) (name_at s q) → r ≡ same_list (key_of s x p) (key_of s y q)
    keys_same r e n t = t ∙ sym (ap₂ same_list (key_some x p n) (key_some y q (λ z. n (e ∙ z))) ∙ same_heads x y (name_at s p) (name_at s q) e)

module _ (b : TypeTable) (s : List ℕ) where
  abbrev class : ℕ → ℕ
  class = class_p b.types

  abbrev bucket : ℕ → ℕ
  bucket = bucket_p b.types

  abbrev link : ℕ → ℕ
  link = link_p b.types

  abbrev place : ℕ → ℕ
  place = record_p b.types

  abbrev key : List ℕ → ℕ → List ℕ
  key w = key_in b s w

  -- ---- spaces and names of holders
  module _ (at h : ℕ) where
    pub space_void : h ≡ 0 → 2 ≡ space_at b s at h
    unfolding space_at
    space_void e = rw e

    pub space_type : (x k r : ℕ) → (h ≡ 0 → ⊥) → h < b.types → x ≡ section_word b s (at + 4) → k ≡ kind_of x → r ≡ space_of k → r ≡ space_at b s at h
    unfolding space_at
    space_type x k r z l ex ek er = rw (ne_eqb h 0 z, lt-ltb h b.types l, ← ex, ← ek) er

    pub space_enum : (h ≡ 0 → ⊥) → b.types ≤ h → 1 ≡ space_at b s at h
    unfolding space_at
    space_enum z l = rw (ne_eqb h 0 z, le-ltb h b.types l)

  pub name_is : (at x : ℕ) → x ≡ section_word b s at → b.strs + x ≡ name_of b s at
  unfolding name_of
  name_is at x e = rw e

  -- ---- keys
  keys_stay : (w v : List ℕ) → ((h : ℕ) → get_word w (place h) ≡ get_word v (place h)) → key w ≡ key v
  unfolding key_in
  keys_stay w v e = fun_ext (λ h. ap (λ (at : ℕ). key_of s (space_at b s at h) (name_of b s at)) (e h))

  -- void has no space, so that its class is that of all holders without one
  key_void : (w : List ℕ) → key w 0 ≡ 2 ∷ []
  unfolding key_in space_at key_of
  key_void w = refl

  module _ (w : List ℕ) (h : ℕ) where
    pub key_is : (i at x p : ℕ) → i ≡ place h → at ≡ get_word w i → x ≡ space_at b s at h → p ≡ name_of b s at → key_of s x p ≡ key w h
    unfolding key_in
    key_is i at x p ei ea ex ep = ap₂ (key_of s) ex ep ∙ ap (λ (at : ℕ). key_of s (space_at b s at h) (name_of b s at)) (ea ∙ ap (get_word w) ei)

    module _ (x p : ℕ) (k : key_of s x p ≡ key w h) where
      pub class_void : x ≡ 2 → class_of (key w) h ≡ 0
      class_void e = let l : class_of (key w) h ≤ 0 = laws.class_first (key w) 0 h zero-le (key_void w ∙ sym (key_none s x p e) ∙ k) in omega arith

      pub bucket_is : (m r : ℕ) → r ≡ hash_key (key_of s x p) → r % m ≡ bucket_of (key w) m h
      unfolding bucket_of
      bucket_is m r e = ap (λ (v : ℕ). v % m) (e ∙ ap hash_key k)

      module _ (n : x ≡ 2 → ⊥) where
        pub class_other : class_of (key w) h ≢ 0
        unfolding key_of
        class_other z = n (ap (λ (l : List ℕ). get_or l 0 0) (k ∙ sym (laws.class_key (key w) h) ∙ ap (key w) z ∙ key_void w))

        pub finds : (m r : ℕ) → Ready (key w) bucket link m h w → r ≡ hash_key (key_of s x p) → Finds (key w) bucket link h (r % m) w
        finds m r f e = record { n = m; ready = f; chain = bucket_is m r e; other = class_other }

  -- ---- the loop
  module _ (n : ℕ) (w₀ : List ℕ) where
    -- the work before holder k
    unfoldable pub State : ℕ → List ℕ
    State k = state_of (key w₀) class bucket link n k w₀

    state_keys : (k : ℕ) (w : List ℕ) → w ≡ State k → key w ≡ key w₀
    unfolding State
    state_keys k w e = keys_stay w w₀ (λ h. ap (λ (u : List ℕ). get_word u (place h)) e ∙ laws.state_else (key w₀) class bucket link n k (place h) w₀ (record_class b.types h) (record_bucket b.types h) (record_link b.types h))

    clear_keys : (w : List ℕ) → w ≡ fill bucket noughts w₀ n → key w ≡ key w₀
    clear_keys w e = keys_stay w w₀ (λ h. ap (λ (u : List ℕ). get_word u (place h)) e ∙ get_else bucket noughts w₀ (place h) n (λ k q. record_bucket b.types h k))

    pub ready : (e k : ℕ) (w : List ℕ) → n ≡ b.types + e → b.types * 16 + e * 8 ≤ length w₀ / 4 → k < n → w ≡ State k → Ready (key w) bucket link n k w
    unfolding State
    ready e k w en l m q =
        rw (state_keys k w q)
        (laws.state_ready (key w₀) n class bucket link (places b.types) w₀ k w
        (λ h z. omega (arith, place_in b.types 7 3 (omega arith) (omega arith) e h (omega arith)))
        (λ h z. omega (arith, place_in b.types 8 4 (omega arith) (omega arith) e h (omega arith)))
        m q)

    pub turn : (k : ℕ) (w u : List ℕ) → k < n → w ≡ State k → u ≡ placed (key w) class bucket link n k w → u ≡ State (k + 1)
    unfolding State
    turn k w u m e f = laws.state_turn (key w₀) n class bucket link (places b.types) w₀ k w u m e (f ∙ ap (λ (k' : ℕ → List ℕ). placed k' class bucket link n k w) (state_keys k w e))

  module _ (n : ℕ) (w₀ : List ℕ) where
    pub start : (c : List ℕ) → c ≡ fill bucket noughts w₀ n → c ≡ State n c 0
    unfolding State
    start c = laws.state_start (key c) n class bucket link (places b.types) w₀ c

    pub done : (k : ℕ) (c w v : List ℕ) → k ≡ n → c ≡ fill bucket noughts w₀ n → w ≡ State n c k → v ≡ fill bucket noughts (fill link noughts w n) n → v ≡ with_classes (key w₀) class bucket link n w₀
    unfolding State
    done k c w v q e f g =
        laws.all_done (key c) n class bucket link (places b.types) w₀ k c w v q e f g
        ∙ ap (λ (k' : ℕ → List ℕ). with_classes k' class bucket link n w₀) (clear_keys n w₀ c e)

  module _ (e : ℕ) (w : List ℕ) where
    pub too_many : 4294967295 - b.types < e → w ≡ table_classed b e s w
    unfolding table_classed
    too_many l = rw (lt-ltb (4294967295 - b.types) e l, table_classed)

    pub too_short : e ≤ 4294967295 - b.types → length w / 4 < b.types * 16 + e * 8 → w ≡ table_classed b e s w
    unfolding table_classed
    too_short m l = rw (le-ltb (4294967295 - b.types) e m, table_classed, lt-ltb (length w / 4) (b.types * 16 + e * 8) l)

    pub unfit : false ≡ is_some (holders_in b.types e w) → w ≡ table_classed b e s w
    unfolding table_classed holders_in
    unfit = go (ltb (4294967295 - b.types) e) (ltb (length w / 4) (b.types * 16 + e * 8))
      where
        all : List ℕ
        all = with_classes (key w) class bucket link (b.types + e) w

        go : (p q : Bool) → false ≡ is_some (elim p as (λ z. Option ℕ) [ true ↦ None | false ↦ elim q as (λ z. Option ℕ) [ true ↦ None | false ↦ Some (b.types + e) ] ])
            → w ≡ elim p as (λ z. List ℕ) [ true ↦ w | false ↦ elim q as (λ z. List ℕ) [ true ↦ w | false ↦ all ] ]
        go true q z = refl
        go false true z = refl
        go false false z = absurd (cc)

    pub long_enough : (n : ℕ) → n ≡ b.types + e → e ≤ 4294967295 - b.types → b.types * 16 + e * 8 ≤ length w / 4 → with_classes (key w) class bucket link n w ≡ table_classed b e s w
    unfolding table_classed
    long_enough n q m l = rw (q, le-ltb (4294967295 - b.types) e m, table_classed, le-ltb (length w / 4) (b.types * 16 + e * 8) l)

-- Laws of the lists, call by call. Assumes nothing.
use Prim.Native.Nat.{ℕ, zero, suc, ◌+◌, ◌-◌, ◌/◌, ◌%◌, ◌≤◌, ◌<◌}
use mathlib.Core.Path.{◌≡◌, refl, ap, ap₂, ◌∙◌, sym}
use mathlib.Core.List.{List, [], ◌∷◌}
use mathlib.Core.Bool.{Bool, true, false}
use native.Mathlib.Omega.{arith}
use native.Mathlib.Numerals.{add-one}
use lib.Dec.{leb, eqb}
use borrow.Author.Tests.{le-leb, lt-leb, eq-eqb, ne_eqb, lt-ltb, le-ltb}
use Rattle.spec_bytes.specs.words.Words.{get_word}
use Rattle.spec_type_table.specs.declared.types.TypeTable.{TypeTable}
use Rattle.spec_type_table.specs.Cells.{class_p}
use Rattle.spec_type_table.specs.Names.{name_at}
use Rattle.btf_open_names.specs.name_classes.Classes.{key_of, key_in}
use Rattle.std.proofs.Common.{None, Some}
use Rattle.btf_open_names.specs.declared.suffixes.bases.Base.{Base}
use Rattle.btf_open_names.specs.suffixes.Based.{based}
use Rattle.btf_open_names.specs.filled_work.Takers.{after_underscores, suffix_on, any_suffix, name_in, base_from, listed_on, on_base, taker_put, takers_put, with_takers, takers_in}
use Rattle.btf_open_names.proofs.name_classes.Keys.{key_some}
use Rattle.btf_open_names.proofs.filled_work.Bytes.{on_same, on_other}

-- ---- keys
key_none : (s : List ℕ) (x a : ℕ) → x ≡ 2 → key_of s x a ≡ x ∷ []
unfolding key_of
key_none s x a e = ap (λ (t : Bool). x ∷ elim t as (λ z. List ℕ) [ true ↦ [] | false ↦ name_at s a ]) (eq-eqb x 2 e)

key_cons : (s : List ℕ) (x a : ℕ) → (l : List ℕ) × (key_of s x a ≡ x ∷ l)
unfolding key_of
key_cons s x a = (elim (eqb x 2) as (λ z. List ℕ) [ true ↦ [] | false ↦ name_at s a ], refl)

on_empty : suffix_on [] [] ≡ 0
unfolding suffix_on after_underscores
on_empty = refl

module _ (s : List ℕ) (x a y c : ℕ) where
  pub keys_apart : (x ≡ y → ⊥) → 0 ≡ suffix_on (key_of s x a) (key_of s y c)
  keys_apart n = let p = key_cons s x a in let q = key_cons s y c in sym (ap₂ suffix_on p.1 q.1 ∙ on_other x y p.0 q.0 n)

  pub keys_none : x ≡ y → x ≡ 2 → 0 ≡ suffix_on (key_of s x a) (key_of s y c)
  keys_none e z = sym (ap₂ suffix_on (key_none s x a z) (key_none s y c (sym e ∙ z)) ∙ on_same x y [] [] e ∙ on_empty)

  pub keys_some : (r : ℕ) → x ≡ y → (x ≡ 2 → ⊥) → r ≡ suffix_on (name_at s a) (name_at s c) → r ≡ suffix_on (key_of s x a) (key_of s y c)
  keys_some r e n q = q ∙ sym (ap₂ suffix_on (key_some s x a n) (key_some s y c (λ z. n (e ∙ z))) ∙ on_same x y (name_at s a) (name_at s c) e)

pub suffixed_some : (s : List ℕ) (x a : ℕ) → (r : Bool) → (x ≡ 2 → ⊥) → r ≡ any_suffix (name_at s a) → r ≡ any_suffix (name_in (key_of s x a))
suffixed_some s x a r n e = e ∙ sym (ap (λ (l : List ℕ). any_suffix (name_in l)) (key_some s x a n))

pub suffixed_none : (s : List ℕ) → false ≡ any_suffix (name_in (key_of s 2 0))
unfolding any_suffix
suffixed_none s = sym (ap (λ (l : List ℕ). any_suffix (name_in l)) (key_none s 2 0 refl))

-- ---- a walk over holders for a base, turn by turn
module _ (key : ℕ → List ℕ) (h n : ℕ) where
  some_from : (f c m : ℕ) → 0 < f → m ≡ suffix_on (key c) (key h) → base_from key h f c ≡ elim (leb 2 m) as (λ z. ℕ) [ true ↦ c | false ↦ base_from key h (f - 1) (c + 1) ]
  unfolding base_from
  some_from zero c m l e = absurd (omega arith)
  some_from (suc f) c m l e =
      let p : f ≡ suc f - 1 = omega arith in
      ap (λ (x : ℕ). elim (leb 2 x) as (λ z. ℕ) [ true ↦ c | false ↦ base_from key h f (suc c) ]) (sym e)
      ∙ ap₂ (λ (x y : ℕ). elim (leb 2 m) as (λ z. ℕ) [ true ↦ c | false ↦ base_from key h x y ]) p (sym (add-one c))

  module _ (r c : ℕ) (inv : r ≡ base_from key h (n - c) c) where
    pub base_found : (m : ℕ) → c < n → m ≡ suffix_on (key c) (key h) → 2 ≤ m → c ≡ r
    base_found m l e g = sym (inv ∙ some_from (n - c) c m (omega arith) e ∙ ap (λ (t : Bool). elim t as (λ z. ℕ) [ true ↦ c | false ↦ base_from key h (n - c - 1) (c + 1) ]) (le-leb 2 m g))

    pub base_turn : (m : ℕ) → c < n → m ≡ suffix_on (key c) (key h) → m < 2 → r ≡ base_from key h (n - (c + 1)) (c + 1)
    base_turn m l e g =
        let p : n - c - 1 ≡ n - (c + 1) = omega arith in
        inv
        ∙ some_from (n - c) c m (omega arith) e
        ∙ ap (λ (t : Bool). elim t as (λ z. ℕ) [ true ↦ c | false ↦ base_from key h (n - c - 1) (c + 1) ]) (lt-leb 2 m g)
        ∙ ap (λ (x : ℕ). base_from key h x (c + 1)) p

-- ---- put_taker
module _ (b : TypeTable) (s : List ℕ) (n h : ℕ) (w : List ℕ) where
  put_by : (p q : Bool) (c : ℕ) → eqb (get_word w (class_p b.types h)) h ≡ p → any_suffix (name_in (key_in b s w h)) ≡ q → base_from (key_in b s w) h (n - 1) 1 ≡ c
      → taker_put b s n h w ≡ elim p as (λ z. List ℕ) [ true ↦ elim q as (λ z. List ℕ) [ true ↦ on_base b s n h w c | false ↦ w ] | false ↦ w ]
  unfolding taker_put
  put_by p q c e f g = λ i. elim (e i) as (λ z. List ℕ) [ true ↦ elim (f i) as (λ z. List ℕ) [ true ↦ on_base b s n h w (g i) | false ↦ w ] | false ↦ w ]

  module _ (class : ℕ) (is_class : class ≡ get_word w (class_p b.types h)) where
    pub taker_later : (class ≡ h → ⊥) → w ≡ taker_put b s n h w
    taker_later d = sym (put_by false (any_suffix (name_in (key_in b s w h))) (base_from (key_in b s w) h (n - 1) 1) (ne_eqb (get_word w (class_p b.types h)) h (λ z. d (is_class ∙ z))) refl refl)

    module _ (first : class ≡ h) (k : List ℕ) (ek : k ≡ key_in b s w h) (t : Bool) (et : t ≡ any_suffix (name_in k)) where
      e_class : eqb (get_word w (class_p b.types h)) h ≡ true
      e_class = eq-eqb (get_word w (class_p b.types h)) h (sym is_class ∙ first)

      e_suffix : any_suffix (name_in (key_in b s w h)) ≡ t
      e_suffix = ap (λ (l : List ℕ). any_suffix (name_in l)) (sym ek) ∙ sym et

      pub taker_plain : t ≡ false → w ≡ taker_put b s n h w
      taker_plain z = sym (put_by true false (base_from (key_in b s w) h (n - 1) 1) e_class (e_suffix ∙ z) refl)

      module _ (z : t ≡ true) (c : ℕ) (eb : c ≡ base_from (key_in b s w) h (n - 1) 1) where
        pub taker_none : None ≡ based (key_in b s w) h c → w ≡ taker_put b s n h w
        unfolding on_base based
        taker_none q = go c eb q
          where
            go : (c : ℕ) → c ≡ base_from (key_in b s w) h (n - 1) 1 → None ≡ based (key_in b s w) h c → w ≡ taker_put b s n h w
            go zero f q = sym (put_by true true 0 e_class (e_suffix ∙ z) (sym f))
            go (suc c) f q = absurd (cc)

        pub taker_some : (base : Base) → Some base ≡ based (key_in b s w) h c → (u : List ℕ) → u ≡ listed_on b.types base.holder h base.number w → u ≡ taker_put b s n h w
        unfolding on_base based
        taker_some base q u e = go c eb q
          where
            go : (c : ℕ) → c ≡ base_from (key_in b s w) h (n - 1) 1 → Some base ≡ based (key_in b s w) h c → u ≡ taker_put b s n h w
            go zero f q = absurd (cc)
            go (suc c) f q =
                let p : base ≡ record { holder = suc c; number = suffix_on (key_in b s w (suc c)) (key_in b s w h) } = cc in
                e ∙ ap (λ (x : Base). listed_on b.types x.holder h x.number w) p ∙ sym (put_by true true (suc c) e_class (e_suffix ∙ z) (sym f))

-- ---- takers, turn by turn
module _ (b : TypeTable) (s : List ℕ) (n : ℕ) where
  pub pass_end : (all w : List ℕ) (h : ℕ) → all ≡ takers_put b s n (h - 1) w → h ≤ 1 → w ≡ all
  unfolding takers_put
  pass_end all w h e l = let z : h - 1 ≡ 0 = omega arith in sym (e ∙ ap (λ (k : ℕ). takers_put b s n k w) z)

  pub pass_turn : (all w u : List ℕ) (h : ℕ) → all ≡ takers_put b s n (h - 1) w → 1 < h → u ≡ taker_put b s n (h - 1) w → all ≡ takers_put b s n (h - 1 - 1) u
  unfolding takers_put
  pass_turn all w u h e l q =
      let z : h - 1 ≡ suc (h - 1 - 1) = omega arith in
      e ∙ ap (λ (k : ℕ). takers_put b s n k w) z ∙ ap (takers_put b s n (h - 1 - 1)) (ap (λ (k : ℕ). taker_put b s n k w) (sym z) ∙ sym q)

module _ (b : TypeTable) (e : ℕ) (s w : List ℕ) where
  pub takers_past : 4294967295 - b.types < e → w ≡ with_takers b e s w
  unfolding with_takers
  takers_past h = sym (ap (λ (t : Bool). elim t as (λ z. List ℕ) [ true ↦ w | false ↦ takers_put b s (b.types + e) (b.types + e - 1) w ]) (lt-ltb (4294967295 - b.types) e h))

  pub takers_all : e ≤ 4294967295 - b.types → (u : List ℕ) → u ≡ takers_put b s (b.types + e) (b.types + e - 1) w → u ≡ with_takers b e s w
  unfolding with_takers
  takers_all h u q = q ∙ sym (ap (λ (t : Bool). elim t as (λ z. List ℕ) [ true ↦ w | false ↦ takers_put b s (b.types + e) (b.types + e - 1) w ]) (le-ltb (4294967295 - b.types) e h))

module _ (modes : ℕ) (b : TypeTable) (e : ℕ) (s w : List ℕ) where
  in_mode : (t : Bool) → eqb (modes / 8 % 2) 1 ≡ t → takers_in modes b e s w ≡ elim t as (λ z. List ℕ) [ true ↦ with_takers b e s w | false ↦ w ]
  unfolding takers_in
  in_mode t q = ap (λ (x : Bool). elim x as (λ z. List ℕ) [ true ↦ with_takers b e s w | false ↦ w ]) q

  pub mode_off : (modes / 8 % 2 ≡ 1 → ⊥) → w ≡ takers_in modes b e s w
  mode_off n = sym (in_mode false (ne_eqb (modes / 8 % 2) 1 n))

  pub mode_on : (u : List ℕ) → modes / 8 % 2 ≡ 1 → u ≡ with_takers b e s w → u ≡ takers_in modes b e s w
  mode_on u q z = z ∙ sym (in_mode true (eq-eqb (modes / 8 % 2) 1 q))

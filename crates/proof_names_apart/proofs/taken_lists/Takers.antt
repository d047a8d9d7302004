-- The lists that opening makes, over a work with classes and without lists: at c stand the numbers of the first holders whose name is that of c with
-- a suffix. Assumes nothing.
use Prim.Native.Nat.{ℕ, zero, suc, ◌+◌, ◌-◌, ◌*◌, ◌/◌, ◌<◌, ◌≤◌}
use mathlib.Core.Path.{◌≡◌, refl, ap, ◌∙◌, sym, fun_ext}
use mathlib.Core.Bool.{Bool, true, false}
use mathlib.Core.List.{List}
use mathlib.Core.Logic.{◌≢◌}
use native.Mathlib.Omega.{arith}
use lib.ListN.{length}
use lib.Dec.{leb, eqb}
use Rattle.spec_bytes.specs.words.Words.{get_word, put_word}
use Rattle.spec_bytes.proofs.words.Laws.{get_put_other}
use Rattle.spec_type_table.specs.declared.types.TypeTable.{TypeTable}
use Rattle.spec_type_table.specs.Cells.{place_of, class_p}
use Rattle.spec_type_table.specs.Numbers.{head_p, next_p, taken_p, taken_at}
use Rattle.btf_open_names.specs.name_classes.Classes.{space_at, name_of, key_of, key_in}
use Rattle.btf_open_names.proofs.name_classes.Keys.{place_apart}
use Rattle.btf_open_names.specs.filled_work.Takers.{suffix_on, any_suffix, name_in, base_from, listed_on, on_base, taker_put, takers_put}
use Rattle.proof_names_apart.specs.taken_lists.Listed.{numbers_on, base_of, number_of}
use Rattle.proof_names_apart.proofs.taken_lists.Chains.{on_one, on_all, lists_read}

-- a word of a holder that is none of a list stays
stays : (types f g : ℕ) → (f < 16) × (g < 8) × (f ≢ 7) × (f ≢ 8) × (f ≢ 14) × (g ≢ 3) × (g ≢ 4) × (g ≢ 6) → (c h m : ℕ) (w : List ℕ) (k : ℕ) → get_word (listed_on types c h m w) (place_of types f g k) ≡ get_word w (place_of types f g k)
unfolding listed_on
stays types f g (lf, lg, n7, n8, n14, n3, n4, n6) c h m w k =
    get_put_other (put_word (put_word w (next_p types h) (get_word w (head_p types c))) (taken_p types h) m) (head_p types c) (place_of types f g k) h (place_apart types f g 7 3 (lf, omega arith, lg, omega arith, n7, n3) k c)
    ∙ get_put_other (put_word w (next_p types h) (get_word w (head_p types c))) (taken_p types h) (place_of types f g k) m (place_apart types f g 14 6 (lf, omega arith, lg, omega arith, n14, n6) k h)
    ∙ get_put_other w (next_p types h) (place_of types f g k) (get_word w (head_p types c)) (place_apart types f g 8 4 (lf, omega arith, lg, omega arith, n8, n4) k h)

base_below : (key : ℕ → List ℕ) (h f c : ℕ) → 1 ≤ c + f → base_from key h f c < c + f
unfolding base_from
base_below key h zero c l = omega arith
base_below key h (suc f) c l = go (leb 2 (suffix_on (key c) (key h))) (base_below key h f (suc c) (omega arith))
  where
    go : (t : Bool) → base_from key h f (suc c) < suc c + f → elim t as (λ z. ℕ) [ true ↦ c | false ↦ base_from key h f (suc c) ] < c + suc f
    go true r = omega arith
    go false r = omega arith

module _ (b : TypeTable) (e : ℕ) (s w₀ : List ℕ) (some : 1 ≤ b.types) where
  abbrev n : ℕ
  n = b.types + e

  abbrev base : ℕ → ℕ
  base = base_of b s w₀ n

  abbrev num : ℕ → ℕ
  num = number_of b s w₀ n

  pub base_in : (h : ℕ) → base h < n
  unfolding base_of
  base_in h = go (eqb (get_word w₀ (class_p b.types h)) h) (any_suffix (name_in (key_in b s w₀ h)))
    where
      go : (p q : Bool) → elim p as (λ z. ℕ) [ true ↦ elim q as (λ z. ℕ) [ true ↦ base_from (key_in b s w₀) h (n - 1) 1 | false ↦ 0 ] | false ↦ 0 ] < n
      go true true = let r : base_from (key_in b s w₀) h (n - 1) 1 < 1 + (n - 1) = base_below (key_in b s w₀) h (n - 1) 1 (omega arith) in omega (arith, r)
      go true false = omega arith
      go false q = omega arith

  -- a work with the same keys and classes
  record Same (w : List ℕ) : Type 0 where
    keys : key_in b s w ≡ key_in b s w₀
    classes : (h : ℕ) → get_word w (class_p b.types h) ≡ get_word w₀ (class_p b.types h)

  put_same : (w : List ℕ) (c h m : ℕ) → Same w → Same (listed_on b.types c h m w)
  unfolding key_in
  put_same w c h m z = record {
    keys = fun_ext (λ k. ap (λ (at : ℕ). key_of s (space_at b s at k) (name_of b s at)) (stays b.types 0 0 (omega arith, omega arith, (λ q. omega arith), (λ q. omega arith), (λ q. omega arith), (λ q. omega arith), (λ q. omega arith), (λ q. omega arith)) c h m w k)) ∙ z.keys;
    classes = λ k. stays b.types 5 1 (omega arith, omega arith, (λ q. omega arith), (λ q. omega arith), (λ q. omega arith), (λ q. omega arith), (λ q. omega arith), (λ q. omega arith)) c h m w k ∙ z.classes k;
  }

  one_same : (w : List ℕ) (h c : ℕ) → Same w → Same (on_one b.types e base num h w c)
  unfolding on_one
  one_same w h zero z = z
  one_same w h (suc c) z = put_same w (suc c) h (num h) z

  module _ (w : List ℕ) (z : Same w) (h : ℕ) where
    on_base_lem : (c : ℕ) → base h ≡ c → on_base b s n h w c ≡ on_one b.types e base num h w c
    unfolding on_base on_one number_of
    on_base_lem zero q = refl
    on_base_lem (suc c) q =
        ap (λ (m : ℕ). listed_on b.types (suc c) h m w)
        (ap (λ (k : ℕ → List ℕ). suffix_on (k (suc c)) (k h)) z.keys ∙ ap (λ (x : ℕ). suffix_on (key_in b s w₀ x) (key_in b s w₀ h)) (sym q))

    nothing : w ≡ on_one b.types e base num h w 0
    unfolding on_one
    nothing = refl

    one_is : taker_put b s n h w ≡ on_one b.types e base num h w (base h)
    unfolding taker_put base_of
    one_is =
        (λ i. elim (eqb (z.classes h i) h) as (λ y. List ℕ) [ true ↦ elim (any_suffix (name_in (z.keys i h))) as (λ y. List ℕ) [ true ↦ on_base b s n h w (base_from (z.keys i) h (n - 1) 1) | false ↦ w ] | false ↦ w ])
        ∙ go (eqb (get_word w₀ (class_p b.types h)) h) refl (any_suffix (name_in (key_in b s w₀ h))) refl
      where
        by : Bool → Bool → ℕ
        by p q = elim p as (λ y. ℕ) [ true ↦ elim q as (λ y. ℕ) [ true ↦ base_from (key_in b s w₀) h (n - 1) 1 | false ↦ 0 ] | false ↦ 0 ]

        is : (p q : Bool) → eqb (get_word w₀ (class_p b.types h)) h ≡ p → any_suffix (name_in (key_in b s w₀ h)) ≡ q → base h ≡ by p q
        is p q f g = λ i. by (f i) (g i)

        go : (p : Bool) → eqb (get_word w₀ (class_p b.types h)) h ≡ p → (q : Bool) → any_suffix (name_in (key_in b s w₀ h)) ≡ q
            → elim p as (λ y. List ℕ) [ true ↦ elim q as (λ y. List ℕ) [ true ↦ on_base b s n h w (base_from (key_in b s w₀) h (n - 1) 1) | false ↦ w ] | false ↦ w ] ≡ on_one b.types e base num h w (base h)
        go true f true g = let r : base h ≡ base_from (key_in b s w₀) h (n - 1) 1 = is true true f g in on_base_lem (base_from (key_in b s w₀) h (n - 1) 1) r ∙ ap (on_one b.types e base num h w) (sym r)
        go true f false g = nothing ∙ ap (on_one b.types e base num h w) (sym (is true false f g))
        go false f q g = nothing ∙ ap (on_one b.types e base num h w) (sym (is false q f g))

  all_is : (k : ℕ) (w : List ℕ) → Same w → takers_put b s n k w ≡ on_all b.types e base num k w
  unfolding takers_put on_all
  all_is zero w z = refl
  all_is (suc k) w z =
      ap (takers_put b s n k) (one_is w z (suc k)) ∙ all_is k (on_one b.types e base num (suc k) w (base (suc k))) (one_same w (suc k) (base (suc k)) z)

  pub takers_read : b.types * 16 + e * 8 ≤ length w₀ / 4 → n ≤ 4294967295 → ((c : ℕ) → c < n → get_word w₀ (head_p b.types c) ≡ 0)
      → (c : ℕ) → 1 ≤ c → c < n → taken_at b.types (takers_put b s n (n - 1) w₀) c ≡ numbers_on base num c 1 (n - 1)
  takers_read room few zeros c lc md =
      ap (λ (u : List ℕ). taken_at b.types u c) (all_is (n - 1) w₀ (record { keys = refl; classes = λ h. refl }))
      ∙ lists_read b.types e base num base_in w₀ room few zeros c lc md

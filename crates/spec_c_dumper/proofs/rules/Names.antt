-- Laws of names: equal spaces and bytes, the text of a number, and one more holder of a name. Assumes nothing.
use Prim.Native.Nat.{ℕ, ◌≤◌, ◌<◌}
use mathlib.Core.Path.{◌≡◌, refl, ap, ap₂, ◌∙◌, sym}
use mathlib.Core.Bool.{Bool, true, false, ◌&&◌, true≢false}
use mathlib.Core.List.{List, [], ◌∷◌, ◌++◌}
use lib.Pointwise.{pointwise}
use lib.Dec.{eqb}
use borrow.Author.Tests.{eqb-true, eq-eqb, lt-ltb, le-ltb}
use Rattle.spec_bytes.specs.words.Words.{one_more}
use Rattle.spec_bytes.specs.text.Text.{ascii}
use Rattle.spec_bytes.specs.text.Decimal.{decimal}
use Rattle.spec_c_dumper.specs.rules.Types.{Name}
use Rattle.spec_c_dumper.specs.rules.Names.{Space, tag_space, ident_space, Holder, same_space, same_bytes, spelled, holds, holders, with_one}

pub space_self : (x : Space) → same_space x x ≡ true
space_self tag_space = refl
space_self ident_space = refl

pub space_same : (x y : Space) → same_space x y ≡ true → x ≡ y
space_same tag_space tag_space e = refl
space_same tag_space ident_space e = absurd (true≢false (sym e))
space_same ident_space tag_space e = absurd (true≢false (sym e))
space_same ident_space ident_space e = refl

pub bytes_self : (x : List ℕ) → same_bytes x x ≡ true
unfolding same_bytes
bytes_self [] = refl
bytes_self (a ∷ x) = ap (λ (t : Bool). elim t as (λ z. Bool) [ true ↦ same_bytes x x | false ↦ false ]) (eq-eqb a a refl) ∙ bytes_self x

pub bytes_same : (x y : List ℕ) → same_bytes x y ≡ true → x ≡ y
unfolding same_bytes
bytes_same [] [] e = refl
bytes_same [] (a ∷ y) e = absurd (true≢false (sym e))
bytes_same (a ∷ x) [] e = absurd (true≢false (sym e))
bytes_same (a ∷ x) (c ∷ y) e = step (eqb a c) refl e (bytes_same x y)
  where
    step : (t : Bool) → eqb a c ≡ t → elim t as (λ z. Bool) [ true ↦ same_bytes x y | false ↦ false ] ≡ true → (same_bytes x y ≡ true → x ≡ y) → a ∷ x ≡ c ∷ y
    step true q r f = ap₂ ◌∷◌ (eqb-true a c q) (f r)
    step false q r f = absurd (true≢false (sym r))

-- `==` of two slices
pub compared : (a b : List ℕ) → pointwise eqb a b ≡ same_bytes a b
unfolding same_bytes
compared [] [] = refl
compared [] (y ∷ b) = refl
compared (x ∷ a) [] = refl
compared (x ∷ a) (y ∷ b) = go (eqb x y) (compared a b)
  where
    go : (t : Bool) → pointwise eqb a b ≡ same_bytes a b → (t && pointwise eqb a b) ≡ elim t [ true ↦ same_bytes a b | false ↦ false ]
    go true e = e
    go false e = refl

-- ---- the text of a number
pub spelled_low : (name : Name) (n : ℕ) → n < 2 → spelled name n ≡ name
unfolding spelled
spelled_low name n k = ap (λ (t : Bool). elim t as (λ w. Name) [ true ↦ name | false ↦ name ++ ascii "___" ++ decimal n ]) (lt-ltb n 2 k)

pub spelled_later : (name : Name) (n : ℕ) → 2 ≤ n → spelled name n ≡ name ++ ascii "___" ++ decimal n
unfolding spelled
spelled_later name n h = ap (λ (t : Bool). elim t as (λ w. Name) [ true ↦ name | false ↦ name ++ ascii "___" ++ decimal n ]) (le-ltb n 2 h)

-- ---- holders
pub holds_same : (h : Holder) (space : Space) (name : Name) → holds h space name ≡ true → (h.space ≡ space) × (h.name ≡ name)
unfolding holds
holds_same h space name e = step (same_space h.space space) refl e
  where
    step : (t : Bool) → same_space h.space space ≡ t → elim t as (λ z. Bool) [ true ↦ same_bytes h.name name | false ↦ false ] ≡ true → (h.space ≡ space) × (h.name ≡ name)
    step true q r = (space_same _ _ q, bytes_same _ _ r)
    step false q r = absurd (true≢false (sym r))

pub holds_equal : (h : Holder) (space : Space) (name : Name) → h.space ≡ space → h.name ≡ name → holds h space name ≡ true
unfolding holds
holds_equal h space name p q =
    ap₂ (λ (x : Space) (n : Name). elim (same_space x space) as (λ z. Bool) [ true ↦ same_bytes n name | false ↦ false ]) p q
    ∙ ap (λ (t : Bool). elim t as (λ z. Bool) [ true ↦ same_bytes name name | false ↦ false ]) (space_self space)
    ∙ bytes_self name

abbrev pub more_of : Holder → Holder
more_of h = record { space = h.space; name = h.name; count = one_more h.count }

module _ (space : Space) (name : Name) where
  pub holds_self : (n : ℕ) → holds (record { space = space; name = name; count = n }) space name ≡ true
  holds_self n = holds_equal (record { space = space; name = name; count = n }) space name refl refl

  -- the name has one more holder
  pub count_here : (l : List Holder) → holders (with_one l space name) space name ≡ one_more (holders l space name)
  unfolding holders with_one holds one_more
  count_here [] = ap (λ (t : Bool). elim t as (λ z. ℕ) [ true ↦ 1 | false ↦ 0 ]) (holds_self 1)
  count_here (h ∷ l) = go (holds h space name) refl (count_here l)
    where
      go : (b : Bool) → holds h space name ≡ b → holders (with_one l space name) space name ≡ one_more (holders l space name)
          → holders (elim b as (λ z. List Holder) [ true ↦ more_of h ∷ l | false ↦ h ∷ with_one l space name ]) space name ≡ one_more (elim b as (λ z. ℕ) [ true ↦ h.count | false ↦ holders l space name ])
      go true e i = ap (λ (t : Bool). elim t as (λ z. ℕ) [ true ↦ one_more h.count | false ↦ holders l space name ]) e
      go false e i = ap (λ (t : Bool). elim t as (λ z. ℕ) [ true ↦ h.count | false ↦ holders (with_one l space name) space name ]) e ∙ i

-- Laws of the lists in the work: the walk along one, and that counting leaves them alone. Assumes nothing.
use Prim.Native.Nat.{ℕ, zero, suc, ◌+◌, ◌-◌, ◌≤◌, ◌<◌}
use mathlib.Core.Path.{◌≡◌, refl, sym, ◌∙◌, ap, ap₂}
use mathlib.Core.Bool.{Bool, true, false}
use mathlib.Core.List.{List, [], ◌∷◌}
use mathlib.Core.Logic.{⊎_elim, ◌≢◌}
use native.Mathlib.Omega.{arith}
use lib.Dec.{ltb}
use borrow.Author.Tests.{lt-ltb, le-ltb, lt-leb, le-leb}
use Rattle.std.proofs.lemmas.Bool.{cases_lt}
use Rattle.spec_bytes.specs.words.Words.{get_word, one_more, pick}
use Rattle.spec_bytes.proofs.words.Laws.{more_is, more_stuck}
use Rattle.spec_type_table.specs.Cells.{place_of, class_p, count_p, count_after, count_raised}
use Rattle.spec_type_table.specs.Numbers.{below, capped, number_over, head_p, next_p, taken_p, numbers_from, taken_at, number_at}
use Rattle.spec_type_table.proofs.Laws.{place_type, place_enum}
use Rattle.spec_type_table.proofs.Frame.{counted_other}
use Rattle.btf_open_names.specs.numbers.Lists.{one_if}

-- ---- add_if
module _ (c t n : ℕ) where
  pub if_above : n < t → c ≡ one_if c t n
  unfolding one_if
  if_above h = sym (ap (λ (b : Bool). elim b as (λ z. ℕ) [ true ↦ c | false ↦ one_more c ]) (lt-ltb n t h))

  if_below : t ≤ n → one_if c t n ≡ one_more c
  unfolding one_if
  if_below h = ap (λ (b : Bool). elim b as (λ z. ℕ) [ true ↦ c | false ↦ one_more c ]) (le-ltb n t h)

  pub if_more : t ≤ n → c < 4294967295 → c + 1 ≡ one_if c t n
  if_more h l = sym (if_below h ∙ more_is c l)

  pub if_stuck : t ≤ n → 4294967295 ≤ c → c ≡ one_if c t n
  if_stuck h l = sym (if_below h ∙ more_stuck c l)

  pub if_at_most : t ≤ n → (r : ℕ) → (c < 4294967295 → r ≡ c + 1) → (4294967295 ≤ c → r ≡ c) → r ≡ one_if c t n
  if_at_most h r low high = ⊎_elim (λ l. low l ∙ if_more h l) (λ l. high l ∙ if_stuck h l) (cases_lt c 4294967295)

-- ---- count_below
module _ (types : ℕ) (w : List ℕ) (last x : ℕ) where
  none_left : (f : ℕ) → x ≤ last → numbers_from f types w last x ≡ []
  unfolding numbers_from
  none_left zero h = refl
  none_left (suc f) h = rw (le-ltb last x h, numbers_from)

  some_left : (f : ℕ) → last < x → 0 < f → numbers_from f types w last x ≡ get_word w (taken_p types x) ∷ numbers_from (f - 1) types w x (get_word w (next_p types x))
  unfolding numbers_from
  some_left zero h l = absurd (omega arith)
  some_left (suc f) h l = let e : f ≡ suc f - 1 = omega arith in rw (lt-ltb last x h, numbers_from) (ap (λ (g : ℕ). get_word w (taken_p types x) ∷ numbers_from g types w x (get_word w (next_p types x))) e)

-- c numbers were counted, and what is left from x on has the others; with as many turns as are enough
pub Walked : ℕ → List ℕ → ℕ → ℕ → ℕ → ℕ → ℕ → Type 0
Walked types w class n c last x = (f : ℕ) × (4294967296 ≤ f + last) × (c ≤ last) × (c + below (numbers_from f types w last x) n ≡ below (taken_at types w class) n)

below_cons : (c t : ℕ) (ts : List ℕ) (n : ℕ) → c < 4294967295 → c + below (t ∷ ts) n ≡ one_if c t n + below ts n
unfolding below
below_cons c t ts n l = ⊎_elim
    (λ h. ap (λ (b : Bool). c + elim b as (λ z. ℕ) [ true ↦ suc (below ts n) | false ↦ below ts n ]) (lt-leb t n h) ∙ ap (λ (y : ℕ). y + below ts n) (if_above c t n h))
    (λ h. ap (λ (b : Bool). c + elim b as (λ z. ℕ) [ true ↦ suc (below ts n) | false ↦ below ts n ]) (le-leb t n h) ∙ omega (arith, if_more c t n h l))
    (cases_lt n t)

if_least : (c t n : ℕ) → c < 4294967295 → one_if c t n ≤ c + 1
if_least c t n l = ⊎_elim (λ h. omega (arith, if_above c t n h)) (λ h. omega (arith, if_more c t n h l)) (cases_lt n t)

module _ (types : ℕ) (w : List ℕ) (class n : ℕ) where
  pub walk_start : (x : ℕ) → x ≡ get_word w (head_p types class) → Walked types w class n 0 0 x
  unfolding Walked taken_at
  walk_start x e = (4294967296, omega arith, omega arith, omega (arith, ap (λ (y : ℕ). below (numbers_from 4294967296 types w 0 y) n) e))

  module _ (c last x : ℕ) where
    pub walk_end : Walked types w class n c last x → x ≤ last → c ≡ below (taken_at types w class) n
    unfolding Walked below
    walk_end i h = let e : c + below (numbers_from i.0 types w last x) n ≡ c + 0 = ap (λ (l : List ℕ). c + below l n) (none_left types w last x i.0 h) in omega (arith, e, i.3)

    pub walk_turn : (t d y : ℕ) → Walked types w class n c last x → last < x → x < 4294967296 → t ≡ get_word w (taken_p types x) → d ≡ one_if c t n
        → y ≡ get_word w (next_p types x) → Walked types w class n d x y
    unfolding Walked
    walk_turn t d y i h l et ed ey =
        (i.0 - 1, omega (arith, i.1), omega (arith, ed, i.2, if_least c t n (omega (arith, i.2))), whole)
      where
        f : ℕ
        f = i.0

        small : c < 4294967295
        small = omega (arith, i.2)

        whole : d + below (numbers_from (i.0 - 1) types w x y) n ≡ below (taken_at types w class) n
        whole =
            ap₂ (λ (p q : ℕ). p + below (numbers_from (i.0 - 1) types w x q) n) (ed ∙ ap (λ (q : ℕ). one_if c q n) et) ey
            ∙ sym (below_cons c (get_word w (taken_p types x)) (numbers_from (i.0 - 1) types w x (get_word w (next_p types x))) n small)
            ∙ sym (ap (λ (r : List ℕ). c + below r n) (some_left types w last x i.0 h (omega (arith, i.1))))
            ∙ i.3

-- ---- step
pub capped_is : (n r : ℕ) → (n < 4294967295 → r ≡ n) → (4294967295 ≤ n → r ≡ 4294967295) → r ≡ capped n
unfolding capped
capped_is n r low high =
    ⊎_elim
    (λ h. low h ∙ sym (ap (λ (t : Bool). pick t n 4294967295) (lt-ltb n 4294967295 h)))
    (λ h. high h ∙ sym (ap (λ (t : Bool). pick t n 4294967295) (le-ltb n 4294967295 h)))
    (cases_lt n 4294967295)

-- ---- counting leaves the lists alone
apart : (t f g f' g' : ℕ) → (f < 16) × (f' < 16) × (g < 8) × (g' < 8) × (f ≢ f') × (g ≢ g') → (i j : ℕ) → place_of t f g i ≢ place_of t f' g' j
apart t f g f' g' p i j e =
    ⊎_elim
    (λ a. ⊎_elim (λ b. omega (arith, place_type t f g i a, place_type t f' g' j b)) (λ b. omega (arith, place_type t f g i a, place_enum t f' g' j b)) (cases_lt j t))
    (λ a. ⊎_elim (λ b. omega (arith, place_enum t f g i a, place_type t f' g' j b)) (λ b. omega (arith, place_enum t f g i a, place_enum t f' g' j b)) (cases_lt j t))
    (cases_lt i t)

-- two works with the same words of lists
module _ (types : ℕ) (u w : List ℕ) (en : (x : ℕ) → get_word u (next_p types x) ≡ get_word w (next_p types x)) (et : (x : ℕ) → get_word u (taken_p types x) ≡ get_word w (taken_p types x)) where
  pub numbers_same : (f last x : ℕ) → numbers_from f types u last x ≡ numbers_from f types w last x
  unfolding numbers_from
  numbers_same zero last x = refl
  numbers_same (suc f) last x =
      ap (λ (l : List ℕ). elim (ltb last x) as (λ z. List ℕ) [ true ↦ l | false ↦ [] ])
      (ap₂ (λ (n : ℕ) (l : List ℕ). n ∷ l) (et x) (numbers_same f x (get_word u (next_p types x)) ∙ ap (numbers_from f types w x) (en x)))

  pub taken_same : (c : ℕ) → get_word u (head_p types c) ≡ get_word w (head_p types c) → taken_at types u c ≡ taken_at types w c
  unfolding taken_at
  taken_same c eh = numbers_same 4294967296 0 (get_word u (head_p types c)) ∙ ap (numbers_from 4294967296 types w 0) eh

module _ (types : ℕ) (w : List ℕ) (h : ℕ) where
  pub taken_counted : (c : ℕ) → taken_at types (count_raised (class_p types) (count_p types) w h) c ≡ taken_at types w c
  taken_counted c = taken_same types _ w
      (λ x. counted_other types w h (next_p types x) (λ j. apart types 8 4 6 2 (omega arith) x j))
      (λ x. counted_other types w h (taken_p types x) (λ j. apart types 14 6 6 2 (omega arith) x j))
      c
      (counted_other types w h (head_p types c) (λ j. apart types 7 3 6 2 (omega arith) c j))

  -- ---- get_number
  pub number_got : (class k r : ℕ) (u : List ℕ) → class ≡ get_word w (class_p types h) → k ≡ count_after (class_p types) (count_p types) w h → u ≡ count_raised (class_p types) (count_p types) w h
      → r ≡ number_over (taken_at types u class) k → r ≡ number_at types w h
  unfolding number_at
  number_got class k r u ec ek eu e =
      e
      ∙ ap₂ (λ (x : List ℕ) (y : ℕ). number_over (taken_at types x class) y) eu ek
      ∙ ap (λ (x : List ℕ). number_over x (count_after (class_p types) (count_p types) w h)) (taken_counted class ∙ ap (taken_at types w) ec)

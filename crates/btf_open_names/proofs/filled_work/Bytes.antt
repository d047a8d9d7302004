-- Laws of suffixes, byte by byte. Assumes nothing.
use Prim.Native.Nat.{ℕ, zero, suc, ◌+◌, ◌-◌, ◌*◌, ◌≤◌, ◌<◌}
use mathlib.Core.Path.{◌≡◌, refl, ap, ap₂, ◌∙◌, sym}
use mathlib.Core.List.{List, [], ◌∷◌}
use mathlib.Core.Bool.{Bool, true, false, ◌&&◌}
use mathlib.Core.Logic.{◌⊎◌, inl, inr, ⊎_elim}
use native.Mathlib.Omega.{arith}
use native.Mathlib.Decide.{ℕ_discrete}
use lib.ListN.{length, get_or}
use lib.Dec.{leb}
use borrow.Author.Tests.{le-leb, lt-leb, eq-eqb, ne_eqb}
use Rattle.std.proofs.lemmas.Bool.{cases_lt}
use Rattle.std.proofs.Common.{Option, None, Some, unwrap_or}
use Rattle.std.specs.Option.{MatchOption}
use Rattle.btf_open_names.specs.suffixes.Found.{unless_zero}
use Rattle.btf_open_names.proofs.suffixes.Found.{none_zero, some_number}
use Rattle.spec_bytes.specs.words.Words.{pick}
use Rattle.spec_type_table.specs.Names.{up_to_zero, name_at}
use Rattle.spec_type_table.proofs.NameLaws.{name_more, name_zero, name_end}
use Rattle.btf_open_names.specs.filled_work.Takers.{digit_after, numeral_from, numeral, after_underscores, suffix_in, suffix_on}

-- ---- digit_after
module _ (acc x : ℕ) where
  by_tests : (p q r : Bool) → leb 48 x ≡ p → leb x 57 ≡ q → leb (acc * 10 + (x - 48)) 4294967295 ≡ r → digit_after acc x ≡ pick (p && q && r) (acc * 10 + (x - 48)) 0
  unfolding digit_after
  by_tests p q r e f g = (λ i. pick (e i && f i && g i) (acc * 10 + (x - 48)) 0)

  pub digit_low : x < 48 → 0 ≡ digit_after acc x
  digit_low h = sym (by_tests false (leb x 57) (leb (acc * 10 + (x - 48)) 4294967295) (lt-leb 48 x h) refl refl)

  pub digit_high : 48 ≤ x → 57 < x → 0 ≡ digit_after acc x
  digit_high l h = sym (by_tests true false (leb (acc * 10 + (x - 48)) 4294967295) (le-leb 48 x l) (lt-leb x 57 h) refl)

  pub digit_not : (x < 48) ⊎ (57 < x) → 0 ≡ digit_after acc x
  digit_not (inl h) = digit_low h
  digit_not (inr h) = ⊎_elim (λ l. digit_low l) (λ l. digit_high l h) (cases_lt x 48)

  pub digit_past : (v : ℕ) → 48 ≤ x → x ≤ 57 → v ≡ acc * 10 + (x - 48) → 4294967295 < v → 0 ≡ digit_after acc x
  digit_past v l h e m = sym (by_tests true true false (le-leb 48 x l) (le-leb x 57 h) (lt-leb (acc * 10 + (x - 48)) 4294967295 (omega (arith, e))))

  pub digit_next : (v : ℕ) → 48 ≤ x → x ≤ 57 → v ≡ acc * 10 + (x - 48) → v ≤ 4294967295 → v ≡ digit_after acc x
  digit_next v l h e m = e ∙ sym (by_tests true true true (le-leb 48 x l) (le-leb x 57 h) (le-leb (acc * 10 + (x - 48)) 4294967295 (omega (arith, e))))

-- ---- numeral, by its digits
abbrev pub Numbers : ℕ → List ℕ → Option ℕ → Type 0
Numbers acc l r = unwrap_or r 0 ≡ numeral_from acc l

pub numeral_end : (acc : ℕ) → Numbers acc [] (Some acc)
unfolding numeral_from
numeral_end acc = refl

module _ (acc x : ℕ) where
  by_digit : (v : ℕ) (l : List ℕ) → v ≡ digit_after acc x → numeral_from acc (x ∷ l) ≡ elim v as (λ z. ℕ) [ zero ↦ 0 | suc u ↦ numeral_from (suc u) l ]
  unfolding numeral_from
  by_digit v l e = ap (λ (z : ℕ). elim z as (λ y. ℕ) [ zero ↦ 0 | suc u ↦ numeral_from (suc u) l ]) (sym e)

  pub numeral_more : (w : Option ℕ) → w ≡ unless_zero (digit_after acc x) → MatchOption w ((l : List ℕ) → Numbers acc (x ∷ l) None) (λ v. (l : List ℕ) (r : Option ℕ) → Numbers v l r → Numbers acc (x ∷ l) r)
  numeral_more None e = λ l. sym (by_digit 0 l (sym (none_zero (digit_after acc x) e)))
  numeral_more (Some zero) e = λ l r q. absurd ((some_number (digit_after acc x) 0 e).1 refl)
  numeral_more (Some (suc v)) e = λ l r q. q ∙ sym (by_digit (suc v) l (some_number (digit_after acc x) (suc v) e).0)

-- ---- suffix_in
under_here : (n x : ℕ) (l : List ℕ) → x ≡ 95 → after_underscores (suc n) (x ∷ l) ≡ after_underscores n l
unfolding after_underscores
under_here n x l e = ap (λ (t : Bool). elim t as (λ z. ℕ) [ true ↦ after_underscores n l | false ↦ 0 ]) (eq-eqb x 95 e)

pub under_other : (n x : ℕ) (l : List ℕ) → (x ≡ 95 → ⊥) → after_underscores (suc n) (x ∷ l) ≡ 0
unfolding after_underscores
under_other n x l e = ap (λ (t : Bool). elim t as (λ z. ℕ) [ true ↦ after_underscores n l | false ↦ 0 ]) (ne_eqb x 95 e)

abbrev underscored : ℕ → List ℕ → List ℕ
underscored zero l = l
underscored (suc n) l = 95 ∷ underscored n l

under_unless : (n : ℕ) (s : List ℕ) → ((l : List ℕ) → s ≡ underscored n l → ⊥) → after_underscores n (up_to_zero s) ≡ 0
unfolding after_underscores up_to_zero
under_unless zero s h = absurd (h s refl)
under_unless (suc n) [] h = refl
under_unless (suc n) (zero ∷ s) h = refl
under_unless (suc n) (suc x ∷ s) h =
    elim (ℕ_discrete (suc x) 95) [
      | yes e ↦ under_here n (suc x) (up_to_zero s) e ∙ under_unless n s (λ l q. h l (ap₂ (λ (y : ℕ) (t : List ℕ). y ∷ t) e q))
      | no m ↦ under_other n (suc x) (up_to_zero s) m
    ]

pub suffix_not : (s : List ℕ) → ((l : List ℕ) → s ≡ 95 ∷ 95 ∷ 95 ∷ l → ⊥) → suffix_in (up_to_zero s) ≡ 0
suffix_not s h = under_unless 3 s h

pub suffix_all : (s l : List ℕ) → s ≡ 95 ∷ 95 ∷ 95 ∷ l → suffix_in (up_to_zero s) ≡ numeral (up_to_zero l)
unfolding after_underscores up_to_zero
suffix_all s l e = rw e

-- ---- suffix_on, turn by turn
pub on_none : (x : List ℕ) → suffix_on x [] ≡ 0
unfolding suffix_on after_underscores
on_none [] = refl
on_none (a ∷ x) = refl

pub on_same : (a b : ℕ) (x y : List ℕ) → a ≡ b → suffix_on (a ∷ x) (b ∷ y) ≡ suffix_on x y
unfolding suffix_on
on_same a b x y e = ap (λ (t : Bool). elim t as (λ z. ℕ) [ true ↦ suffix_on x y | false ↦ 0 ]) (eq-eqb a b e)

pub on_other : (a b : ℕ) (x y : List ℕ) → (a ≡ b → ⊥) → suffix_on (a ∷ x) (b ∷ y) ≡ 0
unfolding suffix_on
on_other a b x y e = ap (λ (t : Bool). elim t as (λ z. ℕ) [ true ↦ suffix_on x y | false ↦ 0 ]) (ne_eqb a b e)

module _ (x y : List ℕ) (r k : ℕ) (inv : r ≡ suffix_on (name_at x k) (name_at y k)) where
  pub on_end : length y ≤ k → 0 ≡ r
  on_end l = sym (inv ∙ ap (suffix_on (name_at x k)) (name_end y k l) ∙ on_none (name_at x k))

  module _ (a : ℕ) (e : a ≡ get_or x k 0) where
    pub on_base_lem : (m : ℕ) → a ≡ 0 → m ≡ suffix_in (name_at y k) → m ≡ r
    unfolding suffix_on
    on_base_lem m z f = f ∙ sym (inv ∙ ap (λ (l : List ℕ). suffix_on l (name_at y k)) (name_zero x k (sym e ∙ z)))

    pub on_differ : (a ≡ 0 → ⊥) → (a ≡ get_or y k 0 → ⊥) → 0 ≡ r
    on_differ n d = sym (inv ∙ ap (λ (l : List ℕ). suffix_on l (name_at y k)) (name_more x k (λ q. n (e ∙ q))) ∙ ⊎_elim
        (λ l. ap (suffix_on (get_or x k 0 ∷ name_at x (k + 1))) (name_more y k (λ q. omega (arith, q))) ∙ on_other (get_or x k 0) (get_or y k 0) (name_at x (k + 1)) (name_at y (k + 1)) (λ q. d (e ∙ q)))
        (λ l. ap (suffix_on (get_or x k 0 ∷ name_at x (k + 1))) (name_zero y k (omega arith)) ∙ on_none (get_or x k 0 ∷ name_at x (k + 1)))
        (cases_lt 0 (get_or y k 0)))

    pub on_turn : (a ≡ 0 → ⊥) → a ≡ get_or y k 0 → r ≡ suffix_on (name_at x (k + 1)) (name_at y (k + 1))
    on_turn n d =
        inv
        ∙ ap₂ suffix_on (name_more x k (λ z. n (e ∙ z))) (name_more y k (λ z. n (d ∙ z)))
        ∙ on_same (get_or x k 0) (get_or y k 0) (name_at x (k + 1)) (name_at y (k + 1)) (sym e ∙ d)

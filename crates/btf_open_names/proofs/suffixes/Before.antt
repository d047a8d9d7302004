-- The hash of what stands before a suffix is that of the base, since a name has its suffix at one place only. Assumes nothing.
use Prim.Native.Nat.{ℕ, zero, suc, ◌+◌, ◌≤◌, ◌<◌}
use mathlib.Core.Path.{◌≡◌, refl, ap, ◌∙◌, sym}
use mathlib.Core.List.{List, [], ◌∷◌}
use mathlib.Core.Bool.{Bool, true, false}
use mathlib.Core.Logic.{⊎_elim}
use native.Mathlib.Omega.{arith}
use native.Mathlib.Nat.{add-zero}
use lib.ListN.{length, get_or, take, drop}
use lib.Dec.{leb, eqb}
use borrow.Author.Tests.{le-leb, lt-leb, eqb-true}
use Rattle.std.proofs.lemmas.Bool.{cases_lt}
use Rattle.spec_type_table.specs.Names.{up_to_zero, name_at}
use Rattle.spec_type_table.proofs.NameLaws.{name_more, name_zero, name_end}
use Rattle.btf_open_names.specs.name_classes.Table.{step_of, hash_from}
use Rattle.btf_open_names.specs.filled_work.Takers.{digit_after, numeral_from, after_underscores, suffix_in, suffix_on, any_suffix}
use Rattle.btf_open_names.proofs.filled_work.Bytes.{digit_high, under_other}
use Rattle.btf_open_names.specs.suffixes.Before.{base_len, hash_before}

-- ---- base_len, turn by turn
module _ (s : List ℕ) (r k : ℕ) (inv : r ≡ k + base_len (name_at s k)) where
  pub base_end : length s ≤ k → k ≡ r
  unfolding base_len
  base_end l = sym (inv ∙ ap (λ (n : List ℕ). k + base_len n) (name_end s k l) ∙ add-zero k)

  pub base_zero : get_or s k 0 ≡ 0 → k ≡ r
  unfolding base_len
  base_zero e = sym (inv ∙ ap (λ (n : List ℕ). k + base_len n) (name_zero s k e) ∙ add-zero k)

  module _ (n : get_or s k 0 ≡ 0 → ⊥) (m : ℕ) (e : m ≡ suffix_in (name_at s k)) where
    here : ℕ → ℕ
    here j = k + elim (leb 2 j) as (λ z. ℕ) [ true ↦ 0 | false ↦ suc (base_len (name_at s (k + 1))) ]

    base_more : r ≡ here m
    unfolding base_len here
    base_more =
        inv
        ∙ ap (λ (l : List ℕ). k + base_len l) (name_more s k n)
        ∙ ap (λ (l : List ℕ). here (suffix_in l)) (sym (name_more s k n))
        ∙ ap here (sym e)

    pub base_found : 2 ≤ m → k ≡ r
    unfolding here
    base_found h = sym (base_more ∙ ap (λ (t : Bool). k + elim t as (λ z. ℕ) [ true ↦ 0 | false ↦ suc (base_len (name_at s (k + 1))) ]) (le-leb 2 m h) ∙ add-zero k)

    pub base_turn : m < 2 → r ≡ k + 1 + base_len (name_at s (k + 1))
    unfolding here
    base_turn h =
        let q : r ≡ k + suc (base_len (name_at s (k + 1))) = base_more ∙ ap (λ (t : Bool). k + elim t as (λ z. ℕ) [ true ↦ 0 | false ↦ suc (base_len (name_at s (k + 1))) ]) (lt-leb 2 m h) in
        omega (arith, q)

-- ---- what stands before the suffix, and from it on
pub base_inside : (s : List ℕ) → base_len (up_to_zero s) ≤ length s
unfolding base_len up_to_zero
base_inside [] = omega arith
base_inside (zero ∷ s) = omega arith
base_inside (suc x ∷ s) = go (leb 2 (suffix_in (suc x ∷ up_to_zero s))) (base_inside s)
  where
    go : (t : Bool) → base_len (up_to_zero s) ≤ length s → elim t as (λ z. ℕ) [ true ↦ 0 | false ↦ suc (base_len (up_to_zero s)) ] ≤ suc (length s)
    go true h = omega arith
    go false h = omega arith

pub before_by : (acc : ℕ) (s : List ℕ) → hash_from acc (up_to_zero (take (base_len (up_to_zero s)) s)) ≡ hash_before acc (up_to_zero s)
unfolding base_len up_to_zero hash_from hash_before
before_by acc [] = refl
before_by acc (zero ∷ s) = refl
before_by acc (suc x ∷ s) = go (leb 2 (suffix_in (suc x ∷ up_to_zero s))) (before_by (step_of acc (suc x)) s)
  where
    go : (t : Bool) → hash_from (step_of acc (suc x)) (up_to_zero (take (base_len (up_to_zero s)) s)) ≡ hash_before (step_of acc (suc x)) (up_to_zero s)
        → hash_from acc (up_to_zero (take (elim t as (λ z. ℕ) [ true ↦ 0 | false ↦ suc (base_len (up_to_zero s)) ]) (suc x ∷ s)))
        ≡ elim t as (λ z. ℕ) [ true ↦ acc | false ↦ hash_before (step_of acc (suc x)) (up_to_zero s) ]
    go true h = refl
    go false h = h

pub any_by : (s : List ℕ) → leb 2 (suffix_in (name_at s (base_len (up_to_zero s)))) ≡ any_suffix (up_to_zero s)
unfolding name_at base_len up_to_zero any_suffix after_underscores
any_by [] = refl
any_by (zero ∷ s) = refl
any_by (suc x ∷ s) = go (leb 2 (suffix_in (suc x ∷ up_to_zero s))) refl (any_by s)
  where
    go : (t : Bool) → leb 2 (suffix_in (suc x ∷ up_to_zero s)) ≡ t → leb 2 (suffix_in (up_to_zero (drop (base_len (up_to_zero s)) s))) ≡ any_suffix (up_to_zero s)
        → leb 2 (suffix_in (up_to_zero (drop (elim t as (λ z. ℕ) [ true ↦ 0 | false ↦ suc (base_len (up_to_zero s)) ]) (suc x ∷ s))))
        ≡ elim t as (λ z. Bool) [ true ↦ true | false ↦ any_suffix (up_to_zero s) ]
    go true e h = e
    go false e h = h

-- ---- one place only
abbrev when : Bool → ℕ → ℕ
when t p = elim t as (λ z. ℕ) [ true ↦ p | false ↦ 0 ]

when_zero : (t : Bool) (p : ℕ) → p ≡ 0 → when t p ≡ 0
when_zero true p e = e
when_zero false p e = refl

when_some : (t : Bool) (p : ℕ) → 1 ≤ when t p → (t ≡ true) × (1 ≤ p)
when_some true p h = (refl, h)
when_some false p h = absurd (omega arith)

-- a digit is no underscore, and a number goes on after it
digit_more : (acc d : ℕ) (l : List ℕ) → 1 ≤ numeral_from acc (d ∷ l) → (d ≡ 95 → ⊥) × (1 ≤ numeral_from (digit_after acc d) l)
unfolding numeral_from
digit_more acc d l h = (λ q. no (sym (digit_high acc d (omega (arith, q)) (omega (arith, q)))), go (digit_after acc d) h)
  where
    go : (v : ℕ) → 1 ≤ elim v as (λ z. ℕ) [ zero ↦ 0 | suc u ↦ numeral_from (suc u) l ] → 1 ≤ numeral_from v l
    go zero r = absurd (omega arith)
    go (suc u) r = r

    no : digit_after acc d ≡ 0 → ⊥
    no z = none (digit_after acc d) z h
      where
        none : (v : ℕ) → v ≡ 0 → 1 ≤ elim v as (λ z. ℕ) [ zero ↦ 0 | suc u ↦ numeral_from (suc u) l ] → ⊥
        none zero q r = omega arith
        none (suc u) q r = omega arith

digits_on : (acc : ℕ) (x l : List ℕ) → 1 ≤ numeral_from acc l → suffix_on x l ≡ 0
unfolding suffix_on after_underscores
digits_on acc [] [] h = refl
digits_on acc (a ∷ x) [] h = refl
digits_on acc [] (d ∷ l) h = under_other 2 d l (digit_more acc d l h).0
digits_on acc (a ∷ x) (d ∷ l) h = when_zero (eqb a d) (suffix_on x l) (digits_on (digit_after acc d) x l (digit_more acc d l h).1)

-- fewer underscores stand before the number
more_under : (n m : ℕ) (l : List ℕ) → n < m → 1 ≤ after_underscores n l → after_underscores m l ≡ 0
unfolding after_underscores
more_under n zero l q h = absurd (omega arith)
more_under n (suc m) [] q h = refl
more_under zero (suc m) (d ∷ l) q h = under_other m d l (digit_more 0 d l h).0
more_under (suc n) (suc m) (c ∷ l) q h = when_zero (eqb c 95) (after_underscores m l) (more_under n m l (omega arith) (when_some (eqb c 95) (after_underscores n l) h).1)

under_on : (n : ℕ) (x l : List ℕ) → n ≤ 2 → 1 ≤ after_underscores n l → suffix_on x l ≡ 0
unfolding after_underscores suffix_on
under_on zero x l q h = digits_on 0 x l h
under_on (suc n) x [] q h = absurd (omega arith)
under_on (suc n) [] (c ∷ l) q h = more_under (suc n) 3 (c ∷ l) (omega arith) h
under_on (suc n) (a ∷ x) (c ∷ l) q h = when_zero (eqb a c) (suffix_on x l) (under_on n x l (omega arith) (when_some (eqb c 95) (after_underscores n l) h).1)

one_place : (c : ℕ) (x y : List ℕ) → 2 ≤ suffix_on x y → suffix_in (c ∷ y) ≡ 0
unfolding after_underscores
one_place c x y h =
    ⊎_elim (λ l. absurd (omega (arith, under_on 2 x y (omega arith) (when_some (eqb c 95) (after_underscores 2 y) l).1)))
    (λ l. let z : when (eqb c 95) (after_underscores 2 y) ≡ 0 = omega arith in z)
    (cases_lt 0 (when (eqb c 95) (after_underscores 2 y)))

-- ---- the base's hash
pub before_is : (acc : ℕ) (x y : List ℕ) → 2 ≤ suffix_on x y → hash_from acc x ≡ hash_before acc y
unfolding hash_from hash_before suffix_on
before_is acc [] [] h = refl
before_is acc [] (c ∷ y) h = sym (ap (λ (t : Bool). elim t as (λ z. ℕ) [ true ↦ acc | false ↦ hash_before (step_of acc c) y ]) (le-leb 2 (suffix_in (c ∷ y)) h))
before_is acc (a ∷ x) [] h = absurd (omega arith)
before_is acc (a ∷ x) (c ∷ y) h =
    let p = when_some (eqb a c) (suffix_on x y) (omega arith) in
    let q : 2 ≤ suffix_on x y = two (eqb a c) h in
    before_is (step_of acc a) x y q
    ∙ ap (λ (v : ℕ). hash_before (step_of acc v) y) (eqb-true a c p.0)
    ∙ sym (ap (λ (t : Bool). elim t as (λ z. ℕ) [ true ↦ acc | false ↦ hash_before (step_of acc c) y ]) (lt-leb 2 (suffix_in (c ∷ y)) (omega (arith, one_place c x y q))))
  where
    two : (t : Bool) → 2 ≤ when t (suffix_on x y) → 2 ≤ suffix_on x y
    two true r = r
    two false r = absurd (omega arith)

-- Laws of names: a name is empty, or a byte that is not 0 and the name from the next place on. Assumes nothing.
use Prim.Native.Nat.{ℕ, zero, suc, ◌-◌}
use mathlib.Core.Path.{◌≡◌, refl, ap, ap₂, ◌∙◌, sym}
use mathlib.Core.List.{List, [], ◌∷◌}
use mathlib.Core.Bool.{Bool, true, false}
use native.Mathlib.Omega.{arith}
use lib.ListN.{length, take, drop, length-drop}
use borrow.Author.Tests.{eq-eqb, ne_eqb, eqb-true}
use lib.Dec.{eqb}
use Rattle.std.specs.Prelude.{not, cond, fold, take_while}
use Rattle.std.proofs.lemmas.List.{take_all}
use Rattle.std.proofs.lemmas.List.Sums.{take_while-cons}
use Rattle.spec_type_table.specs.Names.{up_to_zero, name_at}
use Rattle.btf_open_names.specs.name_classes.Same.{same_list}
use Rattle.btf_open_names.specs.name_classes.Table.{step_of, hash_from}

-- the section from a place on has the name there at its front
module _ (s : List ℕ) (at : ℕ) where
  pub name_of_rest : (l : List ℕ) → l ≡ drop at s → up_to_zero l ≡ name_at s at
  unfolding name_at
  name_of_rest l e = ap up_to_zero e

  pub name_of_part : up_to_zero (take (length s - at) (drop at s)) ≡ name_at s at
  name_of_part = name_of_rest (take (length s - at) (drop at s)) (take_all (length s - at) (drop at s) (omega (arith, length-drop at s)))

pub taken_name : (l : List ℕ) → take_while (λ (x : ℕ). not (eqb x 0)) l ≡ up_to_zero l
unfolding up_to_zero
taken_name [] = refl
taken_name (zero ∷ l) = refl
taken_name (suc x ∷ l) =
    let n : suc x ≡ 0 → ⊥ = omega arith in
    take_while-cons (λ (y : ℕ). not (eqb y 0)) (suc x) l ∙ ap (λ (t : Bool). cond (not t) (suc x ∷ take_while (λ (y : ℕ). not (eqb y 0)) l) []) (ne_eqb (suc x) 0 n) ∙ ap (λ (r : List ℕ). suc x ∷ r) (taken_name l)

-- ---- the hash
pub hash_of_name : (acc : ℕ) (l : List ℕ) → fold step_of acc (take_while (λ (x : ℕ). not (eqb x 0)) l) ≡ hash_from acc (up_to_zero l)
unfolding hash_from up_to_zero
hash_of_name acc [] = refl
hash_of_name acc (zero ∷ l) = refl
hash_of_name acc (suc x ∷ l) =
    let n : suc x ≡ 0 → ⊥ = omega arith in
    ap (fold step_of acc) (take_while-cons (λ (y : ℕ). not (eqb y 0)) (suc x) l ∙ ap (λ (t : Bool). cond (not t) (suc x ∷ take_while (λ (y : ℕ). not (eqb y 0)) l) []) (ne_eqb (suc x) 0 n))
    ∙ hash_of_name (step_of acc (suc x)) l

-- ---- two names
pub same_heads : (x y : ℕ) (xs ys : List ℕ) → x ≡ y → same_list (x ∷ xs) (y ∷ ys) ≡ same_list xs ys
unfolding same_list
same_heads x y xs ys e = rw (eq-eqb x y e, same_list)

pub other_heads : (x y : ℕ) (xs ys : List ℕ) → (x ≡ y → ⊥) → same_list (x ∷ xs) (y ∷ ys) ≡ false
unfolding same_list
other_heads x y xs ys n = rw (ne_eqb x y n, same_list)

pub same_self : (x : List ℕ) → same_list x x ≡ true
unfolding same_list
same_self [] = refl
same_self (x ∷ xs) = same_heads x x xs xs refl ∙ same_self xs

pub same_equal : (x y : List ℕ) → same_list x y ≡ true → x ≡ y
unfolding same_list
same_equal [] [] e = refl
same_equal [] (y ∷ ys) e = let z : ◌≡◌ {A = Bool} false true = e in cc
same_equal (x ∷ xs) [] e = let z : ◌≡◌ {A = Bool} false true = e in cc
same_equal (x ∷ xs) (y ∷ ys) e = step (eqb x y) refl e (same_equal xs ys)
  where
    step : (t : Bool) → eqb x y ≡ t → elim t as (λ b. Bool) [ true ↦ same_list xs ys | false ↦ false ] ≡ true → (same_list xs ys ≡ true → xs ≡ ys) → x ∷ xs ≡ y ∷ ys
    step true q r f = ap₂ ◌∷◌ (eqb-true x y q) (f r)
    step false q r f = cc

pub same_from : (x y : List ℕ) → x ≡ y → true ≡ same_list x y
same_from x y e = rw e (sym (same_self y))

-- What was got by asking: the answer of a question that another is made of. Assumes nothing.
use Prim.Native.Nat.{ℕ}
use mathlib.Core.Path.{◌≡◌, refl, ap}
use mathlib.Core.Bool.{Bool, true, false}
use native.Mathlib.Omega.{arith}
use lib.Dec.{ltb}
use Rattle.spec_c_dumper.specs.rules.Writer.{Ask, got, no, ask_then, checked}

pub no_got : {A : Type 0} (c : ℕ) (a : A) → no c ≡ got a → ⊥
no_got c a e = let z : ◌≡◌ {A = ℕ} 0 1 = cc in omega arith

pub record Then {A C : Type 0} (x : Ask A) (k : A → Ask C) (c : C) : Type 0 where
  pub value : A
  pub first : x ≡ got value
  pub rest : k value ≡ got c

pub then_got : {A C : Type 0} (x : Ask A) (k : A → Ask C) (c : C) → ask_then x k ≡ got c → Then x k c
unfolding ask_then
then_got (got a) k c e = record { value = a; first = refl; rest = e }
then_got (no r) k c e = absurd (no_got r c e)

pub then_is : {A C : Type 0} (x : Ask A) (k : A → Ask C) (a : A) → x ≡ got a → ask_then x k ≡ k a
unfolding ask_then
then_is x k a e = ap (λ y. ask_then y k) e

-- by a test, whatever it says
pub choose : {A : Type 0} (F : A → Type 0) (b : Bool) (x y : A) → (b ≡ true → F x) → (b ≡ false → F y) → F (elim b [ true ↦ x | false ↦ y ])
choose F true x y p q = p refl
choose F false x y p q = q refl

pub checked_got : (n r : ℕ) → checked n ≡ got r → n ≡ r
unfolding checked
checked_got n r = choose (λ (z : Ask ℕ). z ≡ got r → n ≡ r) (ltb n 4294967296) _ _ (λ t e. cc) (λ t e. absurd (no_got _ _ e))

-- A test that passed, and one that failed. Assumes nothing.
use mathlib.Core.Path.{◌≡◌, refl, sym}
use mathlib.Core.Bool.{Bool, true, false, false≢true}
use Rattle.std.proofs.lemmas.Bool.{false≢true}

pub passed : {A : Type 0} → (b : Bool) (x y : A) → b ≡ true → elim b [ true ↦ x | false ↦ y ] ≡ x
passed true x y e = refl
passed false x y e = absurd (false≢true e)

pub failed : {A : Type 0} → (b : Bool) (x y : A) → b ≡ false → elim b [ true ↦ x | false ↦ y ] ≡ y
failed true x y e = absurd (false≢true (sym e))
failed false x y e = refl

-- Laws of a text compared with a part of the table. Assumes nothing.
use Prim.Native.Nat.{ℕ, ◌+◌, ◌≤◌}
use mathlib.Core.Path.{◌≡◌, refl, ap, ◌∙◌}
use mathlib.Core.Bool.{Bool, true, false}
use mathlib.Core.List.{List, [], ◌∷◌}
use native.Mathlib.Omega.{arith}
use lib.ListN.{length, drop, length-drop}
use lib.Seq.{length-take-le}
use lib.Pointwise.{pointwise}
use lib.Dec.{eqb}
use Rattle.spec_c_dumper.specs.rules.Names.{same_bytes}
use Rattle.spec_c_dumper.proofs.rules.Names.{compared}
use Rattle.base_keywords.specs.table.Fixed.{part}

other_lengths : (a b : List ℕ) → (length a ≡ length b → ⊥) → false ≡ same_bytes a b
unfolding same_bytes
other_lengths [] [] n = absurd (n refl)
other_lengths [] (y ∷ b) n = refl
other_lengths (x ∷ a) [] n = refl
other_lengths (x ∷ a) (y ∷ b) n = go (eqb x y) (other_lengths a b (λ e. n (omega arith)))
  where
    go : (t : Bool) → false ≡ same_bytes a b → false ≡ elim t [ true ↦ same_bytes a b | false ↦ false ]
    go true e = e
    go false e = refl

-- a text of another length than a part
pub same_part_other : (a s : List ℕ) (start n : ℕ) → start + n ≤ length s → (length a ≡ n → ⊥) → false ≡ same_bytes a (part s start n)
same_part_other a s start n fits k =
    let l : length (part s start n) ≡ n = length-take-le n (drop start s) (omega (arith, length-drop start s)) in
    other_lengths a (part s start n) (λ e. k (e ∙ l))

-- a text compared with another that is the part
pub same_part : (a b p : List ℕ) (r : Bool) → r ≡ pointwise eqb a b → b ≡ p → r ≡ same_bytes a p
same_part a b p r e q = e ∙ compared a b ∙ ap (same_bytes a) q

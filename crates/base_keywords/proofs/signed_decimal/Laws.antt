-- What the machine's steps on numbers with a sign come to, function by function. Such a number is held by its bits,
-- `of_z w z`, and read back by `to_z w`. Assumes nothing.
use Prim.Native.Nat.{ℕ, suc, ◌^◌, ◌≤◌}
use mathlib.Core.Path.{◌≡◌, refl, ap, ◌∙◌, sym}
use mathlib.Core.List.{List, ◌++◌, ◌∷◌}
use Rattle.std.specs.Fmt.{signed_decimal}
use Rattle.spec_bytes.proofs.text.DecimalLaws.{decimal_std}
use native.Mathlib.Omega.{arith}
use borrow.Author.Tests.{ne_eqb}
use lib.IntN.{ℤ, pos, negsuc}
use mir.Syntax.{Width, w64}
use mir.Val.{hbits, SFits, to_z, of_z}
use mir.ValLaws.{to_z-of_z}
use Rattle.spec_bytes.specs.text.Text.{ascii}
use Rattle.spec_bytes.specs.text.Decimal.{decimal, digits}
use Rattle.spec_bytes.specs.signed.Signed.{signed, signed_ll}

-- ---- what std writes of a number with a sign is `signed` of it

pub signed_std : (w : Width) (v : ℤ) → SFits w v → 2 ^ hbits w ≤ 9223372036854775808 → signed_decimal (to_z w (of_z w v)) ≡ signed v
unfolding signed
signed_std w v f l = ap signed_decimal (to_z-of_z w v f) ∙ go v f
  where
    go : (z : ℤ) → SFits w z → signed_decimal z ≡ signed z
    go (pos n) g = sym (decimal_std n (omega (arith, g.sfits)))
    go (negsuc n) g = ap (λ (d : List ℕ). 45 ∷ d) (sym (decimal_std (suc n) (omega (arith, g.sfits))))

-- ---- put_i64: the test is on the bits of the least number

pub least : (v : ℤ) → SFits w64 v → of_z w64 v ≡ 9223372036854775808 → ascii "(-9223372036854775807LL - 1)" ≡ signed_ll v
unfolding signed_ll
least (pos n) f e = absurd (omega (arith, f.sfits))
least (negsuc n) f e = let h : n ≡ 9223372036854775807 = omega (arith, f.sfits) in rw h

pub suffix : (v : ℤ) → (of_z w64 v ≡ 9223372036854775808 → ⊥) → signed v ++ ascii "LL" ≡ signed_ll v
unfolding signed_ll
suffix (pos n) e = refl
suffix (negsuc n) e =
    let h : n ≡ 9223372036854775807 → ⊥ = λ q. e (omega arith) in
    rw (ne_eqb n 9223372036854775807 h, signed_ll)

pub other : (v : ℤ) → SFits w64 v → (of_z w64 v ≡ 9223372036854775808 → ⊥) → signed_decimal (to_z w64 (of_z w64 v)) ++ ascii "LL" ≡ signed_ll v
other v f e = ap (λ (d : List ℕ). d ++ ascii "LL") (signed_std w64 v f (omega arith)) ∙ suffix v e

-- ---- put_least: its parts are what <stdint.h> has
pub least_parts : ascii "(-" ++ decimal 9223372036854775807 ++ ascii "LL" ++ ascii " - 1)" ≡ ascii "(-9223372036854775807LL - 1)"
unfolding decimal digits
least_parts = refl

-- Laws of decimal digits: they are what std's `{}` writes; one digit, and one more. Assumes nothing.
use Prim.Native.Nat.{ℕ, suc, ◌+◌, ◌/◌, ◌%◌, ◌^◌, ◌<◌, ◌≤◌}
use mathlib.Core.Path.{◌≡◌, ap, ◌∙◌, sym}
use mathlib.Core.List.{List, [], ◌∷◌, ◌++◌}
use native.Mathlib.Omega.{arith}
use borrow.Author.Tests.{lt-ltb, le-ltb}
use Rattle.std.specs.Fmt as std
use Rattle.std.proofs.lemmas.Fmt.{decimal_from_appends, decimal_step, length-decimal-le}
use Rattle.spec_bytes.specs.text.Decimal.{digits, decimal}

pub digits_one : (f n : ℕ) → n < 10 → digits (suc f) n ≡ (48 + n) ∷ []
unfolding digits
digits_one f n h = rw (lt-ltb n 10 h, digits)

pub digits_more : (f n : ℕ) → 10 ≤ n → digits (suc f) n ≡ digits f (n / 10) ++ (48 + n % 10) ∷ []
unfolding digits
digits_more f n h = rw (le-ltb n 10 h, digits)

-- the digits that std writes of a number of 64 bits
pub decimal_std : (n : ℕ) → n < 2 ^ 64 → decimal n ≡ std.decimal n
unfolding decimal
decimal_std n l = decimal_from_appends digits (record { one = digits_one; more = digits_more }) 20 n l (length-decimal-le 20 n (omega arith) (omega arith) l)

pub decimal_one : (n : ℕ) → n < 10 → decimal n ≡ (48 + n) ∷ []
unfolding decimal
decimal_one n h = digits_one 19 n h

pub decimal_more : (n : ℕ) → 10 ≤ n → n < 2 ^ 64 → decimal n ≡ decimal (n / 10) ++ (48 + n % 10) ∷ []
decimal_more n h l =
    decimal_std n l ∙ decimal_step n h l ∙ ap (λ (d : List ℕ). d ++ (48 + n % 10) ∷ []) (sym (decimal_std (n / 10) (omega arith)))

-- What `decimal` means: the bytes of a number of 64 bits are digits, read back to the number, and start with a zero only
-- where the number is 0. Assumes nothing.
use Prim.Native.Nat.{ℕ, zero, suc, ◌+◌, ◌-◌, ◌*◌, ◌/◌, ◌%◌, ◌^◌, ◌<◌, ◌≤◌}
use mathlib.Core.Path.{◌≡◌, refl, ◌∙◌, sym}
use mathlib.Core.List.{List, [], ◌∷◌, ◌++◌}
use mathlib.Core.Logic.{⊎_elim}
use native.Mathlib.Omega.{arith}
use native.Mathlib.Nat.{pow-succ'}
use lib.ListN.{length, get_or, length-append}
use Rattle.std.proofs.lemmas.Bool.{cases_lt}
use Rattle.spec_bytes.proofs.text.DecimalLaws.{digits_one, digits_more}
use Rattle.spec_bytes.specs.text.Decimal.{digits, decimal}

-- the number that digits mean after n, by Horner's rule
abbrev pub horner : ℕ → List ℕ → ℕ
horner n [] = n
horner n (d ∷ s) = horner (n * 10 + (d - 48)) s

-- every byte is one of 0 to 9
abbrev pub AllDigits : List ℕ → Type 0
AllDigits [] = Unit {0}
AllDigits (d ∷ s) = (48 ≤ d) × (d ≤ 57) × AllDigits s

-- s is n in decimal
pub record Numeral (n : ℕ) (s : List ℕ) : Type 0 where
  pub means : horner 0 s ≡ n
  pub plain : AllDigits s
  pub some : 0 < length s
  pub first : 0 < n → get_or s 0 0 ≡ 48 → ⊥

horner_snoc : (n : ℕ) (s : List ℕ) (d : ℕ) → horner n (s ++ d ∷ []) ≡ horner n s * 10 + (d - 48)
horner_snoc n [] d = refl
horner_snoc n (e ∷ s) d = horner_snoc (n * 10 + (e - 48)) s d

all_snoc : (s : List ℕ) (d : ℕ) → AllDigits s → 48 ≤ d → d ≤ 57 → AllDigits (s ++ d ∷ [])
all_snoc [] d a l h = (l, h, tt)
all_snoc (e ∷ s) d a l h = (a.0, a.1, all_snoc s d a.2 l h)

first_snoc : (s : List ℕ) (d : ℕ) → 0 < length s → get_or (s ++ d ∷ []) 0 0 ≡ get_or s 0 0
first_snoc [] d h = absurd (omega arith)
first_snoc (e ∷ s) d h = refl

one : (n : ℕ) → n < 10 → Numeral n ((48 + n) ∷ [])
one n h = record { means = omega arith; plain = (omega arith, omega arith, tt); some = omega arith; first = λ p e. omega arith }

more : (n : ℕ) (s : List ℕ) → 10 ≤ n → Numeral (n / 10) s → Numeral n (s ++ (48 + n % 10) ∷ [])
more n s h k =
    record {
      means = horner_snoc 0 s (48 + n % 10) ∙ omega (arith, k.means);
      plain = all_snoc s (48 + n % 10) k.plain (omega arith) (omega arith);
      some = omega (arith, length-append s ((48 + n % 10) ∷ []));
      first = λ p e. k.first (omega arith) (sym (first_snoc s (48 + n % 10) k.some) ∙ e);
    }

enough : (f n : ℕ) → n < 10 ^ suc f → Numeral n (digits (suc f) n)
enough zero n h = rw (digits_one 0 n (omega arith)) (one n (omega arith))
enough (suc f) n h =
    let less : n / 10 < 10 ^ suc f = omega (arith, pow-succ' 10 (suc f)) in
    let k = enough f (n / 10) less in
    ⊎_elim
    (λ l. rw (digits_one (suc f) n l) (one n l))
    (λ l. rw (digits_more (suc f) n l) (more n (digits (suc f) (n / 10)) l k))
    (cases_lt n 10)

pub decimal_is : (n : ℕ) → n < 2 ^ 64 → Numeral n (decimal n)
unfolding decimal
decimal_is n h = enough 19 n (omega arith)

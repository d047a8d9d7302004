-- What each return of the code comes to, in placing mode. Assumes nothing.
use Prim.Native.Nat.{ℕ, zero, suc, ◌/◌, ◌%◌, ◌<◌, ◌≤◌}
use mathlib.Core.Path.{◌≡◌, refl, ap, ◌∙◌, sym}
use mathlib.Core.Bool.{Bool, true, false, ◌&&◌}
use native.Mathlib.Omega.{arith}
use lib.Dec.{eqb, leb, leb-zero, leb-suc-zero, leb-suc-suc}
use lib.Count.{count_trailing_zeros, under}
use borrow.Author.Tests.{le-leb, lt-leb, eq-eqb, ne_eqb, eqb-true}
use mathlib.Core.List.{List, [], ◌∷◌}
use denote.Ref.{Bor}
use Rattle.std.specs.Prelude.{Option, Some, None, drop, cond}
use Rattle.std.specs.List.{find}
use Rattle.std.specs.Option.{option_map}
use Rattle.std.specs.Cmp.{both_ways}
use Rattle.spec_c_dumper.specs.rules.Layout.{long, char, Pad, suits, placed_pad}
use Rattle.c_dumper_padding.specs.declared.units.Unit.{Unit}
use Rattle.c_dumper_padding.specs.declared.units.Unit.TheVariants.{Long, Int, Short, Char}
use Rattle.c_dumper_padding.specs.units.Units.{unit_of, pad_is, suits_by}

-- ---- zeros at the end of a number
module _ (d k w v n : ℕ) (rec : (j : ℕ) → leb k (count_trailing_zeros d j) ≡ eqb (j % w) 0) (up : n % 2 ≡ 0 → n / 2 % w ≡ 0 → n % v ≡ 0) (down : n % v ≡ 0 → (n % 2 ≡ 0) × (n / 2 % w ≡ 0)) where
  one_more_zero : leb (suc k) (count_trailing_zeros (suc d) n) ≡ eqb (n % v) 0
  unfolding count_trailing_zeros
  one_more_zero = go (n % 2) refl
    where
      go : (r : ℕ) → n % 2 ≡ r → leb (suc k) (under (n % 2) (count_trailing_zeros d (n / 2))) ≡ eqb (n % v) 0
      go zero e =
          ap (λ (x : ℕ). leb (suc k) (under x (count_trailing_zeros d (n / 2)))) e
          ∙ leb-suc-suc k (count_trailing_zeros d (n / 2))
          ∙ rec (n / 2)
          ∙ both_ways (eqb (n / 2 % w) 0) (eqb (n % v) 0) (λ t. eq-eqb (n % v) 0 (up e (eqb-true (n / 2 % w) 0 t))) (λ t. eq-eqb (n / 2 % w) 0 (down (eqb-true (n % v) 0 t)).1)
      go (suc r) e =
          ap (λ (x : ℕ). leb (suc k) (under x (count_trailing_zeros d (n / 2)))) e
          ∙ leb-suc-zero k
          ∙ sym (ne_eqb (n % v) 0 (λ z. let q : n % 2 ≡ 0 = (down z).0 in omega arith))

zeros_0 : (d n : ℕ) → leb 0 (count_trailing_zeros d n) ≡ eqb (n % 1) 0
zeros_0 d n = leb-zero (count_trailing_zeros d n) ∙ sym (eq-eqb (n % 1) 0 (omega arith))

zeros_1 : (d n : ℕ) → leb 1 (count_trailing_zeros (suc d) n) ≡ eqb (n % 2) 0
zeros_1 d n = one_more_zero d 0 1 2 n (zeros_0 d) (λ a b. omega arith) (λ a. (omega arith, omega arith))

zeros_2 : (d n : ℕ) → leb 2 (count_trailing_zeros (suc (suc d)) n) ≡ eqb (n % 4) 0
zeros_2 d n = one_more_zero (suc d) 1 2 4 n (zeros_1 d) (λ a b. omega arith) (λ a. (omega arith, omega arith))

zeros_3 : (d n : ℕ) → leb 3 (count_trailing_zeros (suc (suc (suc d))) n) ≡ eqb (n % 8) 0
zeros_3 d n = one_more_zero (suc (suc d)) 2 4 8 n (zeros_2 d) (λ a b. omega arith) (λ a. (omega arith, omega arith))

zeros_4 : (d n : ℕ) → leb 4 (count_trailing_zeros (suc (suc (suc (suc d)))) n) ≡ eqb (n % 16) 0
zeros_4 d n = one_more_zero (suc (suc (suc d))) 3 8 16 n (zeros_3 d) (λ a b. omega arith) (λ a. (omega arith, omega arith))

zeros_5 : (d n : ℕ) → leb 5 (count_trailing_zeros (suc (suc (suc (suc (suc d))))) n) ≡ eqb (n % 32) 0
zeros_5 d n = one_more_zero (suc (suc (suc (suc d)))) 4 16 32 n (zeros_4 d) (λ a b. omega arith) (λ a. (omega arith, omega arith))

zeros_6 : (d n : ℕ) → leb 6 (count_trailing_zeros (suc (suc (suc (suc (suc (suc d)))))) n) ≡ eqb (n % 64) 0
zeros_6 d n = one_more_zero (suc (suc (suc (suc (suc d))))) 5 32 64 n (zeros_5 d) (λ a b. omega arith) (λ a. (omega arith, omega arith))

-- ---- suits
module _ (start gap log width : ℕ) where
  pub suits_not : count_trailing_zeros 64 start < log → false ≡ suits_by start gap log width
  unfolding suits_by
  suits_not h = rw (lt-leb log (count_trailing_zeros 64 start) h)

  pub suits_if : log ≤ count_trailing_zeros 64 start → leb width gap ≡ suits_by start gap log width
  unfolding suits_by
  suits_if h = rw (le-leb log (count_trailing_zeros 64 start) h)

module _ (start gap : ℕ) where
  suits_2 : suits_by start gap 1 2 ≡ suits start gap 2
  unfolding suits_by suits
  suits_2 = ap (λ (x : Bool). x && leb 2 gap) (zeros_1 63 start)

  suits_4 : suits_by start gap 2 4 ≡ suits start gap 4
  unfolding suits_by suits
  suits_4 = ap (λ (x : Bool). x && leb 4 gap) (zeros_2 62 start)

  suits_8 : suits_by start gap 3 8 ≡ suits start gap 8
  unfolding suits_by suits
  suits_8 = ap (λ (x : Bool). x && leb 8 gap) (zeros_3 61 start)

  suits_16 : suits_by start gap 4 16 ≡ suits start gap 16
  unfolding suits_by suits
  suits_16 = ap (λ (x : Bool). x && leb 16 gap) (zeros_4 60 start)

  suits_32 : suits_by start gap 5 32 ≡ suits start gap 32
  unfolding suits_by suits
  suits_32 = ap (λ (x : Bool). x && leb 32 gap) (zeros_5 59 start)

  suits_64 : suits_by start gap 6 64 ≡ suits start gap 64
  unfolding suits_by suits
  suits_64 = ap (λ (x : Bool). x && leb 64 gap) (zeros_6 58 start)

-- ---- the table of pads: a row is the logarithm of a width, the unit, and the width
abbrev pub Row : Type 0
Row = ℕ × Unit × ℕ

abbrev pub rows : List Row
rows = (6, Long, 64) ∷ (5, Int, 32) ∷ (4, Short, 16) ∷ (3, Char, 8) ∷ (2, Char, 4) ∷ (1, Char, 2) ∷ []

pub chosen : Option Row → Pad
chosen (Some p) = record { unit = unit_of p.1; width = p.2 }
chosen None = record { unit = char; width = 1 }

module _ (start gap : ℕ) where
  abbrev pub suited : Row → Bool
  suited p = suits_by start gap p.0 p.2

  one : (p : Row) (ps : List Row) (b : Bool) (x : Pad) → suited p ≡ b → chosen (find suited ps) ≡ x → chosen (find suited (p ∷ ps)) ≡ (elim b [ true ↦ record { unit = unit_of p.1; width = p.2 } | false ↦ x ])
  unfolding chosen
  one p ps true x e h = ap (λ (q : Bool). chosen (cond q (Some p) (find suited ps))) e
  one p ps false x e h = ap (λ (q : Bool). chosen (cond q (Some p) (find suited ps))) e ∙ h

  none : chosen (find suited []) ≡ record { unit = char; width = 1 }
  unfolding chosen
  none = refl

  narrow : chosen (find suited (drop 1 rows)) ≡ placed_pad 0 start gap
  unfolding placed_pad
  narrow =
      one (5, Int, 32) (drop 2 rows) _ _ (suits_32 start gap) (one (4, Short, 16) (drop 3 rows) _ _ (suits_16 start gap) (one (3, Char, 8) (drop 4 rows) _ _ (suits_8 start gap)
      (one (2, Char, 4) (drop 5 rows) _ _ (suits_4 start gap) (one (1, Char, 2) [] _ _ (suits_2 start gap) none))))

  pub placed_other : (p : ℕ) → (p ≡ 8 → ⊥) → chosen (find suited (drop 1 rows)) ≡ placed_pad p start gap
  unfolding placed_pad
  placed_other p n = narrow ∙ rw (ne_eqb p 8 n, placed_pad)

  pub placed_eight : (p : ℕ) → p ≡ 8 → chosen (find suited rows) ≡ placed_pad p start gap
  unfolding placed_pad
  placed_eight p e = one (6, Long, 64) (drop 1 rows) _ _ (suits_64 start gap) narrow ∙ rw e (eight (suits start gap 64))
    where
      wide : Bool → Pad
      wide q = elim q [ true ↦ record { unit = long; width = 64 } | false ↦ placed_pad 0 start gap ]

      eight : (q : Bool) → wide q ≡ wide (eqb 8 8 && q)
      eight q = refl

  pub found_some : (r : Option (Bor Row)) (ps : List Row) (x : Bor Row) → option_map (λ (y : Bor Row). y.now) r ≡ find suited ps → r ≡ Some x
      → pad_is (record { unit = x.now.1; width = x.now.2 }) ≡ chosen (find suited ps)
  unfolding chosen pad_is
  found_some r ps x e h = ap (λ (q : Option (Bor Row)). chosen (option_map (λ (y : Bor Row). y.now) q)) (sym h) ∙ ap chosen e

  pub found_none : (r : Option (Bor Row)) (ps : List Row) → option_map (λ (y : Bor Row). y.now) r ≡ find suited ps → r ≡ None
      → pad_is (record { unit = Char; width = 1 }) ≡ chosen (find suited ps)
  unfolding chosen pad_is
  found_none r ps e h = ap (λ (q : Option (Bor Row)). chosen (option_map (λ (y : Bor Row). y.now) q)) (sym h) ∙ ap chosen e

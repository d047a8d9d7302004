-- What each return of the code comes to. Assumes nothing.
use Prim.Native.Nat.{ℕ, ◌*◌, ◌%◌, ◌<◌, ◌≤◌}
use mathlib.Core.Path.{◌≡◌, ap, ◌∙◌, sym}
use mathlib.Core.Logic.{inl, inr, ⊎_elim}
use native.Mathlib.Omega.{arith}
use native.Mathlib.Nat.{mod-zero}
use mathlib.Core.Bool.{Bool, true, false}
use borrow.Author.Tests.{ne_eqb}
use Rattle.std.proofs.lemmas.Bool.{cases_lt}
use Rattle.spec_c_dumper.specs.rules.Layout.{long, int, short, char, chip_away_bits, pad_of, placed_pad}
use Rattle.c_dumper_padding.specs.declared.units.Pad.{Pad as Code}
use Rattle.c_dumper_padding.specs.declared.units.Unit.TheVariants.{Long, Int, Short, Char}
use Rattle.c_dumper_padding.specs.units.Units.{pad_is, pad_by}
use Rattle.c_dumper_padding.proofs.units.Widths.{pad_long, no_long, pad_int, pad_short, pad_char}

-- ---- chip_away_bits
module _ (total at_most : ℕ) where
  pub chip_none : at_most ≡ 0 → total ≡ chip_away_bits total at_most
  unfolding chip_away_bits
  chip_none e = ⊎_elim there here (cases_lt total 1)
    where
      z : total % at_most ≡ total
      z = ap (λ (n : ℕ). total % n) e ∙ mod-zero total

      here : 1 ≤ total → total ≡ chip_away_bits total at_most
      here l = let n : total % at_most ≡ 0 → ⊥ = λ q. let q' : total ≡ 0 = sym z ∙ q in omega arith in rw (ne_eqb (total % at_most) 0 n, chip_away_bits) (sym z)

      there : total < 1 → total ≡ chip_away_bits total at_most
      there l = let o : total ≡ 0 = omega arith in rw (z ∙ o, chip_away_bits) (o ∙ sym e)

  module _ (rest : ℕ) (er : rest ≡ total % at_most) where
    pub chip_whole : rest ≡ 0 → at_most ≡ chip_away_bits total at_most
    unfolding chip_away_bits
    chip_whole e = rw (sym er ∙ e, chip_away_bits)

    pub chip_rest : (rest ≡ 0 → ⊥) → rest ≡ chip_away_bits total at_most
    unfolding chip_away_bits
    chip_rest n = rw (ne_eqb (total % at_most) 0 (λ q. n (er ∙ q)), chip_away_bits) er

-- ---- short_pad, pad_of
module _ (gap w : ℕ) where
  pub is_int : 16 < gap → w ≡ chip_away_bits gap 32 → pad_is (record { unit = Int; width = w }) ≡ pad_of 0 gap
  unfolding pad_is
  is_int h e = (λ i. record { unit = int; width = e i }) ∙ sym (pad_int gap h)

  pub is_short : gap ≤ 16 → 8 < gap → w ≡ chip_away_bits gap 16 → pad_is (record { unit = Short; width = w }) ≡ pad_of 0 gap
  unfolding pad_is
  is_short l h e = (λ i. record { unit = short; width = e i }) ∙ sym (pad_short gap l h)

  pub is_char : gap ≤ 16 → gap ≤ 8 → w ≡ chip_away_bits gap 8 → pad_is (record { unit = Char; width = w }) ≡ pad_of 0 gap
  unfolding pad_is
  is_char l h e = (λ i. record { unit = char; width = e i }) ∙ sym (pad_char gap l h)

pub is_long : (p gap w : ℕ) → 32 < gap → 4 < p → w ≡ chip_away_bits gap (p * 8) → pad_is (record { unit = Long; width = w }) ≡ pad_of p gap
unfolding pad_is
is_long p gap w h f e = (λ i. record { unit = long; width = e i }) ∙ sym (pad_long p gap f h)

pub is_narrow : (p gap : ℕ) (r : Code) → gap ≤ 32 → pad_is r ≡ pad_of 0 gap → pad_is r ≡ pad_of p gap
is_narrow p gap r h e = e ∙ sym (no_long p gap (inr h))

pub is_small : (p gap : ℕ) (r : Code) → p ≤ 4 → pad_is r ≡ pad_of 0 gap → pad_is r ≡ pad_of p gap
is_small p gap r h e = e ∙ sym (no_long p gap (inl h))

-- ---- next_pad
module _ (placing : Bool) (p start gap : ℕ) (r : Code) where
  pub next_placed : placing ≡ true → pad_is r ≡ placed_pad p start gap → pad_is r ≡ pad_by placing p start gap
  unfolding pad_by
  next_placed e er = er ∙ rw e

  pub next_old : placing ≡ false → pad_is r ≡ pad_of p gap → pad_is r ≡ pad_by placing p start gap
  unfolding pad_by
  next_old e er = er ∙ rw e

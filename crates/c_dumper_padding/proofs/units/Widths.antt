-- The pads of a gap: which unit, how wide, and that as many as there are bits are enough. Assumes nothing.
use Prim.Native.Nat.{ℕ, suc, ◌-◌, ◌*◌, ◌%◌, ◌<◌, ◌≤◌}
use mathlib.Core.Path.{◌≡◌, ap, ◌∙◌}
use mathlib.Core.List.{List, [], ◌∷◌}
use mathlib.Core.Logic.{◌⊎◌, inl, inr, ⊎_elim}
use lib.Dec.{ltb}
use native.Mathlib.Omega.{arith}
use native.Mathlib.Nat.{mod-le, mod-eq_of_lt}
use borrow.Author.Tests.{lt-ltb, le-ltb, ne_eqb}
use Rattle.std.proofs.lemmas.Bool.{cases_lt}
use Rattle.std.proofs.Math.Bool.{and-false}
use Rattle.spec_c_dumper.specs.rules.Layout.{long, int, short, char, Pad, chip_away_bits, pad_of, pads_of}
use Rattle.spec_c_dumper.proofs.alignment_once.Right.{same_or}
use Rattle.spec_c_dumper.proofs.rules.Pads.{no_pads, pads_enough}

-- ---- widths
chip_width : (total n : ℕ) → 1 ≤ n → 1 ≤ total → (1 ≤ chip_away_bits total n) × (chip_away_bits total n ≤ total)
unfolding chip_away_bits
chip_width total n ln lt = same_or (total % n) 0 whole part
  where
    whole : total % n ≡ 0 → (1 ≤ chip_away_bits total n) × (chip_away_bits total n ≤ total)
    whole z =
        let e : chip_away_bits total n ≡ n = rw (z, chip_away_bits) in
        let h : n ≤ total = ⊎_elim (λ l. let q : total % n ≡ total = mod-eq_of_lt l in absurd (omega arith)) (λ l. l) (cases_lt total n) in
        rw e (ln, h)

    part : (total % n ≡ 0 → ⊥) → (1 ≤ chip_away_bits total n) × (chip_away_bits total n ≤ total)
    part z =
        let e : chip_away_bits total n ≡ total % n = rw (ne_eqb (total % n) 0 z, chip_away_bits) in
        let l : 1 ≤ total % n = omega arith in
        rw e (l, mod-le total n)

-- ---- the next pad
module _ (p gap : ℕ) where
  pub pad_long : 4 < p → 32 < gap → pad_of p gap ≡ record { unit = long; width = chip_away_bits gap (p * 8) }
  unfolding pad_of
  pad_long f h = rw (lt-ltb 4 p f, pad_of, lt-ltb 32 gap h)

  pub no_long : (p ≤ 4) ⊎ (gap ≤ 32) → pad_of p gap ≡ pad_of 0 gap
  unfolding pad_of
  no_long (inl f) = rw (le-ltb 4 p f, pad_of)
  no_long (inr h) = rw (le-ltb 32 gap h, pad_of, and-false (ltb 4 p))

module _ (gap : ℕ) where
  pub pad_int : 16 < gap → pad_of 0 gap ≡ record { unit = int; width = chip_away_bits gap 32 }
  unfolding pad_of
  pad_int h = rw (lt-ltb 16 gap h, pad_of)

  pub pad_short : gap ≤ 16 → 8 < gap → pad_of 0 gap ≡ record { unit = short; width = chip_away_bits gap 16 }
  unfolding pad_of
  pad_short l h = rw (le-ltb 16 gap l, pad_of, lt-ltb 8 gap h)

  pub pad_char : gap ≤ 16 → gap ≤ 8 → pad_of 0 gap ≡ record { unit = char; width = chip_away_bits gap 8 }
  unfolding pad_of
  pad_char l h = rw (le-ltb 16 gap l, pad_of, le-ltb 8 gap h)

-- a pad is a bit at least, and no wider than the gap
abbrev Within : Pad → ℕ → Type 0
Within x gap = (1 ≤ x.width) × (x.width ≤ gap)

pub pad_within : (p gap : ℕ) → 1 ≤ gap → Within (pad_of p gap) gap
pad_within p gap l = ⊎_elim (λ f. ⊎_elim (wide f) (λ h. rw (no_long p gap (inr h)) narrow) (cases_lt 32 gap)) (λ f. rw (no_long p gap (inl f)) narrow) (cases_lt 4 p)
  where
    wide : 4 < p → 32 < gap → Within (pad_of p gap) gap
    wide f h = let m : 1 ≤ p * 8 = omega arith in rw (pad_long p gap f h) (chip_width gap (p * 8) m l)

    narrow : Within (pad_of 0 gap) gap
    narrow =
        ⊎_elim
        (λ h. let m : 1 ≤ 32 = omega arith in rw (pad_int gap h) (chip_width gap 32 m l))
        (λ h. ⊎_elim
        (λ g. let m : 1 ≤ 16 = omega arith in rw (pad_short gap h g) (chip_width gap 16 m l))
        (λ g. let m : 1 ≤ 8 = omega arith in rw (pad_char gap h g) (chip_width gap 8 m l))
        (cases_lt 8 gap))
        (cases_lt 16 gap)

-- ---- all of them
module _ (p : ℕ) where
  one_more : (n gap : ℕ) → (gap ≡ 0 → ⊥) → pads_of (suc n) p gap ≡ pad_of p gap ∷ pads_of n p (gap - (pad_of p gap).width)
  unfolding pads_of
  one_more n gap z = rw (ne_eqb gap 0 z, pads_of)

  -- the next one, and those of what is left
  pub pads_next : (gap : ℕ) → 1 ≤ gap → pads_of gap p gap ≡ pad_of p gap ∷ pads_of (gap - (pad_of p gap).width) p (gap - (pad_of p gap).width)
  pads_next gap l =
      let e : gap ≡ suc (gap - 1) = omega arith in
      let z : gap ≡ 0 → ⊥ = omega arith in
      let w = pad_within p gap l in
      ap (λ (n : ℕ). pads_of n p gap) e
      ∙ one_more (gap - 1) gap z
      ∙ ap (λ (ps : List Pad). pad_of p gap ∷ ps) (pads_enough p (gap - 1) (gap - (pad_of p gap).width) (gap - (pad_of p gap).width) (omega (arith, w.0)) (omega arith))

  pub pads_none : (gap : ℕ) → gap ≡ 0 → pads_of gap p gap ≡ []
  pads_none gap z = no_pads p gap gap z

-- The pads of a gap fill it, and more turns than its bits change nothing.
use Prim.Native.Nat.{ℕ, zero, suc, ◌+◌, ◌-◌, ◌*◌, ◌%◌, ◌≤◌, ◌<◌}
use native.Mathlib.Nat.{mod-le, mod-eq_of_lt}
use mathlib.Core.Path.{◌≡◌, refl, ap, sym}
use mathlib.Core.Bool.{Bool, true, false, ◌&&◌}
use mathlib.Core.Logic.{⊎_elim}
use mathlib.Core.List.{List, [], ◌∷◌}
use native.Mathlib.Omega.{arith}
use lib.Dec.{eqb, ltb}
use borrow.Author.Tests.{eqb-true, eqb-false, ltb-true}
use Rattle.std.proofs.lemmas.Bool.{cases_lt}
use Rattle.std.specs.Cmp.{first_so}
use Rattle.spec_c_dumper.specs.rules.Layout.{long, int, short, char, Pad, chip_away_bits, pad_of, pads_of}

module _ (total m : ℕ) (some : 0 < total) (unit : 0 < m) where
  chip_some : 0 < chip_away_bits total m
  unfolding chip_away_bits
  chip_some = go (eqb (total % m) 0) refl
    where
      go : (b : Bool) → eqb (total % m) 0 ≡ b → 0 < (elim b as (λ (x : Bool). ℕ) [ true ↦ m | false ↦ total % m ])
      go true e = unit
      go false e = let n : total % m ≡ 0 → ⊥ = eqb-false (total % m) 0 e in omega arith

  chip_fits : chip_away_bits total m ≤ total
  unfolding chip_away_bits
  chip_fits = go (eqb (total % m) 0) refl
    where
      go : (b : Bool) → eqb (total % m) 0 ≡ b → (elim b as (λ (x : Bool). ℕ) [ true ↦ m | false ↦ total % m ]) ≤ total
      go true e =
          let z : total % m ≡ 0 = eqb-true (total % m) 0 e in
          ⊎_elim (λ l. absurd (omega (arith, mod-eq_of_lt l))) (λ l. l) (cases_lt total m)
      go false e = mod-le total m

pub record Fits (gap width : ℕ) : Type 0 where
  pub some : 0 < width
  pub within : width ≤ gap

chip : (total m : ℕ) → 0 < total → 0 < m → Fits total (chip_away_bits total m)
chip total m s u = record { some = chip_some total m s u; within = chip_fits total m s u }

module _ (ptr_sz gap : ℕ) (open' : 0 < gap) where
  pub pad_fits : Fits gap (pad_of ptr_sz gap).width
  unfolding pad_of
  pad_fits = first (ltb 4 ptr_sz && ltb 32 gap) refl
    where
      third : (b : Bool) → Fits gap (elim b as (λ (x : Bool). Pad) [ true ↦ record { unit = short; width = chip_away_bits gap 16 } | false ↦ record { unit = char; width = chip_away_bits gap 8 } ]).width
      third true = chip gap 16 open' (omega arith)
      third false = chip gap 8 open' (omega arith)

      second : (b : Bool) → Fits gap (elim b as (λ (x : Bool). Pad) [ true ↦ record { unit = int; width = chip_away_bits gap 32 } | false ↦ elim (ltb 8 gap) [ true ↦ record { unit = short; width = chip_away_bits gap 16 } | false ↦ record { unit = char; width = chip_away_bits gap 8 } ] ]).width
      second true = chip gap 32 open' (omega arith)
      second false = third (ltb 8 gap)

      first : (b : Bool) → (ltb 4 ptr_sz && ltb 32 gap) ≡ b → Fits gap (elim b as (λ (x : Bool). Pad) [ true ↦ record { unit = long; width = chip_away_bits gap (ptr_sz * 8) } | false ↦ elim (ltb 16 gap) [ true ↦ record { unit = int; width = chip_away_bits gap 32 } | false ↦ elim (ltb 8 gap) [ true ↦ record { unit = short; width = chip_away_bits gap 16 } | false ↦ record { unit = char; width = chip_away_bits gap 8 } ] ] ]).width
      first true e = let l : 4 < ptr_sz = ltb-true 4 ptr_sz (first_so (ltb 4 ptr_sz) (ltb 32 gap) e) in chip gap (ptr_sz * 8) open' (omega arith)
      first false e = second (ltb 16 gap)

unfoldable pub pads_total : List Pad → ℕ
pads_total [] = 0
pads_total (p ∷ ps) = p.width + pads_total ps

module _ (ptr_sz : ℕ) where
  -- the pads are as wide as the gap
  pub pads_fill : (most gap : ℕ) → gap ≤ most → pads_total (pads_of most ptr_sz gap) ≡ gap
  unfolding pads_of pads_total
  pads_fill zero gap h = omega arith
  pads_fill (suc most) gap h = go (pads_fill most) (eqb gap 0) refl
    where
      go : ((d : ℕ) → d ≤ most → pads_total (pads_of most ptr_sz d) ≡ d) → (b : Bool) → eqb gap 0 ≡ b
          → pads_total (elim b as (λ (x : Bool). List Pad) [ true ↦ [] | false ↦ pad_of ptr_sz gap ∷ pads_of most ptr_sz (gap - (pad_of ptr_sz gap).width) ]) ≡ gap
      go rec true e = sym (eqb-true gap 0 e)
      go rec false e =
          let n : gap ≡ 0 → ⊥ = eqb-false gap 0 e in
          let f : Fits gap (pad_of ptr_sz gap).width = pad_fits ptr_sz gap (omega arith) in
          let r : pads_total (pads_of most ptr_sz (gap - (pad_of ptr_sz gap).width)) ≡ gap - (pad_of ptr_sz gap).width = rec (gap - (pad_of ptr_sz gap).width) (omega arith) in
          omega arith

  pub no_pads : (most gap : ℕ) → gap ≡ 0 → pads_of most ptr_sz gap ≡ []
  unfolding pads_of
  no_pads zero gap e = refl
  no_pads (suc most) gap e = rw (e, pads_of)

  -- turns enough are as good as more
  pub pads_enough : (f g gap : ℕ) → gap ≤ f → gap ≤ g → pads_of f ptr_sz gap ≡ pads_of g ptr_sz gap
  unfolding pads_of
  pads_enough zero g gap h k = sym (no_pads g gap (omega arith))
  pads_enough (suc f) zero gap h k = no_pads (suc f) gap (omega arith)
  pads_enough (suc f) (suc g) gap h k = go (pads_enough f g) (eqb gap 0) refl
    where
      go : ((d : ℕ) → d ≤ f → d ≤ g → pads_of f ptr_sz d ≡ pads_of g ptr_sz d) → (b : Bool) → eqb gap 0 ≡ b
          → ◌≡◌ {A = List Pad} (elim b [ true ↦ [] | false ↦ pad_of ptr_sz gap ∷ pads_of f ptr_sz (gap - (pad_of ptr_sz gap).width) ])
          (elim b [ true ↦ [] | false ↦ pad_of ptr_sz gap ∷ pads_of g ptr_sz (gap - (pad_of ptr_sz gap).width) ])
      go rec true e = refl
      go rec false e =
          let n : gap ≡ 0 → ⊥ = eqb-false gap 0 e in
          let q : Fits gap (pad_of ptr_sz gap).width = pad_fits ptr_sz gap (omega arith) in
          ap (λ (l : List Pad). pad_of ptr_sz gap ∷ l) (rec (gap - (pad_of ptr_sz gap).width) (omega arith) (omega arith))

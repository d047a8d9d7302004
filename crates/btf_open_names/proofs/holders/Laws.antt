-- Laws of all holders. Assumes nothing.
use Prim.Native.Nat.{ℕ, zero, suc, ◌+◌, ◌-◌, ◌*◌, ◌/◌, ◌<◌, ◌≤◌}
use mathlib.Core.Path.{◌≡◌, refl, ap, ap₂, ◌∙◌, sym}
use mathlib.Core.List.{List}
use mathlib.Core.Bool.{Bool, true, false, true≢false}
use mathlib.Core.Logic.{⊎_elim, ◌≢◌}
use native.Mathlib.Omega.{arith}
use lib.ListN.{length}
use Rattle.btf_type_table.specs.declared.table.Table.{Table}
use lib.Dec.{ltb, leb, eqb}
use borrow.Author.Tests.{lt-ltb, le-ltb, leb-true, leb-false, ne_eqb, eq-eqb, ltb-false}
use Rattle.std.proofs.lemmas.Bool.{cases_lt}
use Rattle.std.proofs.Common.{is_some}
use Rattle.btf_open_names.proofs.Ranges.{Asked, below}
use Rattle.spec_bytes.specs.words.Words.{get_word}
use Rattle.btf_open_names.specs.hash_table.Hashed.{all_zero}
use Rattle.btf_open_names.specs.holders.Holders.{holders_in}

-- ---- how many there are
module _ (t e : ℕ) (w : List ℕ) where
  -- what it says that they have room
  pub record Fitted : Type 0 where
    pub numbered : e ≤ 4294967295 - t
    pub long : t * 16 + e * 8 ≤ length w / 4

  fit_split : (p q : Bool) → ltb (4294967295 - t) e ≡ p → ltb (length w / 4) (t * 16 + e * 8) ≡ q
      → is_some (holders_in t e w) ≡ elim p as (λ z. Bool) [ true ↦ false | false ↦ elim q as (λ z. Bool) [ true ↦ false | false ↦ true ] ]
  unfolding holders_in
  fit_split true q ep eq = rw (ep, holders_in) refl
  fit_split false true ep eq = rw (ep, holders_in, eq) refl
  fit_split false false ep eq = rw (ep, holders_in, eq) refl

  pub fit_by : e ≤ 4294967295 - t → leb (t * 16 + e * 8) (length w / 4) ≡ is_some (holders_in t e w)
  fit_by few = go (leb (t * 16 + e * 8) (length w / 4)) refl
    where
      go : (r : Bool) → leb (t * 16 + e * 8) (length w / 4) ≡ r → leb (t * 16 + e * 8) (length w / 4) ≡ is_some (holders_in t e w)
      go true r = r ∙ sym (fit_split false false (le-ltb (4294967295 - t) e few) (le-ltb (length w / 4) (t * 16 + e * 8) (leb-true (t * 16 + e * 8) (length w / 4) r)))
      go false r = r ∙ sym (fit_split false true (le-ltb (4294967295 - t) e few) (lt-ltb (length w / 4) (t * 16 + e * 8) (leb-false (t * 16 + e * 8) (length w / 4) r)))

  pub unnumbered : 4294967295 - t < e → false ≡ is_some (holders_in t e w)
  unnumbered l = sym (fit_split true (ltb (length w / 4) (t * 16 + e * 8)) (lt-ltb (4294967295 - t) e l) refl)

  pub fitted : true ≡ is_some (holders_in t e w) → Fitted
  fitted h = go (ltb (4294967295 - t) e) (ltb (length w / 4) (t * 16 + e * 8)) refl refl
    where
      go : (p q : Bool) → ltb (4294967295 - t) e ≡ p → ltb (length w / 4) (t * 16 + e * 8) ≡ q → Fitted
      go true q ep eq = absurd (true≢false (h ∙ fit_split true q ep eq))
      go false true ep eq = absurd (true≢false (h ∙ fit_split false true ep eq))
      go false false ep eq = record { numbered = ltb-false (4294967295 - t) e ep; long = ltb-false (length w / 4) (t * 16 + e * 8) eq }

-- made of a table and a count of enumerators, they give both back
pub given_back : {A : Type 0} (F : Table → ℕ → A) (t b : Table) (n e : ℕ) → (t ≡ b) × (n ≡ b.head.types + e) → F t (n - t.head.types) ≡ F b e
given_back F t b n e h = let q : t.head.types ≡ b.head.types = ap (λ (x : Table). x.head.types) h.0 in ap₂ F h.0 (omega (arith, q, h.1))

-- ---- a word of each is 0
module _ (at : ℕ → ℕ) (w : List ℕ) where
  zero_split : (n : ℕ) (t : Bool) → eqb (get_word w (at n)) 0 ≡ t → all_zero at w (suc n) ≡ elim t as (λ z. Bool) [ true ↦ all_zero at w n | false ↦ false ]
  unfolding all_zero
  zero_split n t e = ap (λ (x : Bool). elim x as (λ z. Bool) [ true ↦ all_zero at w n | false ↦ false ]) e

  pub zero_true : (n : ℕ) → ((k : ℕ) → k < n → get_word w (at k) ≡ 0) → true ≡ all_zero at w n
  unfolding all_zero
  zero_true zero z = refl
  zero_true (suc n) z = zero_true n (λ k l. z k (omega arith)) ∙ sym (zero_split n true (eq-eqb (get_word w (at n)) 0 (z n (omega arith))))

  pub zero_false : (n k : ℕ) → k < n → get_word w (at k) ≢ 0 → false ≡ all_zero at w n
  zero_false zero k l z = absurd (omega arith)
  zero_false (suc n) k l z =
      ⊎_elim
      (λ g. go (eqb (get_word w (at n)) 0) refl (zero_false n k g z))
      (λ g. let d : k ≡ n = omega arith in sym (zero_split n false (ne_eqb (get_word w (at n)) 0 (λ q. z (ap (λ (x : ℕ). get_word w (at x)) d ∙ q)))))
      (cases_lt k n)
    where
      go : (t : Bool) → eqb (get_word w (at n)) 0 ≡ t → false ≡ all_zero at w n → false ≡ all_zero at w (suc n)
      go true e r = r ∙ sym (zero_split n true e)
      go false e r = sym (zero_split n false e)

  pub zero_of : (n : ℕ) (r : Bool) → Asked (λ k. get_word w (at k) ≡ 0) n r → r ≡ all_zero at w n
  zero_of n true h = zero_true n (below (λ k. get_word w (at k) ≡ 0) n true h)
  zero_of n false h = let f = below (λ k. get_word w (at k) ≡ 0) n false h in zero_false n f.0 f.1 f.2

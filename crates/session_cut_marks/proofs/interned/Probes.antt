-- Where a name is found: at a slot that has it or is free, also after another name is entered at a free slot. Assumes nothing.
use Prim.Native.Nat.{ℕ, zero, suc, ◌+◌, ◌%◌, ◌<◌}
use native.Mathlib.Omega.{arith}
use native.Mathlib.Decide.{ℕ_discrete}
use mathlib.Core.Path.{◌≡◌, refl, sym, ◌∙◌, ap, subst}
use mathlib.Core.Bool.{Bool, true, false, true≢false}
use mathlib.Core.List.{List}
use lib.ListN.{length, get_or, set}
use lib.Seq.{get_or-set_same, get_or-set_other}
use lib.Dec.{eqb}
use borrow.Author.Tests.{eq-eqb, ne_eqb}
use Rattle.spec_c_dumper.specs.rules.Names.{same_bytes}
use Rattle.spec_type_table.specs.declared.types.TypeTable.{TypeTable}
use Rattle.spec_type_table.specs.Names.{str_at}
use Rattle.session_cut_marks.specs.interned.Slots.{stops, probe}

module _ (b : TypeTable) (s : List ℕ) where
  -- the way of a name, from slot i on, ends at a free slot
  unfoldable pub free : List ℕ → List ℕ → ℕ → ℕ → Bool
  free t name i zero = false
  free t name i (suc k) =
      elim (eqb (get_or t i 0) 0) [
        | true ↦ true
        | false ↦ elim (same_bytes (str_at b s (get_or t i 0 % 4294967296)) name) [ true ↦ false | false ↦ free t name ((i + 1) % 262144) k ]
      ]

  -- what a slot is for a name
  data Looked (t name : List ℕ) (i : ℕ) : Type 0 where
    none : get_or t i 0 ≡ 0 → Looked t name i
    same : (get_or t i 0 ≡ 0 → ⊥) → same_bytes (str_at b s (get_or t i 0 % 4294967296)) name ≡ true → Looked t name i
    other : (get_or t i 0 ≡ 0 → ⊥) → same_bytes (str_at b s (get_or t i 0 % 4294967296)) name ≡ false → Looked t name i

  look : (t name : List ℕ) (i : ℕ) → Looked t name i
  look t name i =
      elim (ℕ_discrete (get_or t i 0) 0) [
        | yes z ↦ none z
        | no n ↦ go n (same_bytes (str_at b s (get_or t i 0 % 4294967296)) name) refl
      ]
    where
      go : (get_or t i 0 ≡ 0 → ⊥) → (q : Bool) → same_bytes (str_at b s (get_or t i 0 % 4294967296)) name ≡ q → Looked t name i
      go n true e = same n e
      go n false e = other n e

  module _ (t name : List ℕ) (i k : ℕ) where
    abbrev Way : Bool → Bool → ℕ
    Way p q = elim (elim p as (λ z. Bool) [ true ↦ true | false ↦ q ]) as (λ z. ℕ) [ true ↦ i | false ↦ probe b s t name ((i + 1) % 262144) k ]

    abbrev Free : Bool → Bool → Bool
    Free p q = elim p as (λ z. Bool) [ true ↦ true | false ↦ elim q as (λ z. Bool) [ true ↦ false | false ↦ free t name ((i + 1) % 262144) k ] ]

    none_probe : get_or t i 0 ≡ 0 → probe b s t name i (suc k) ≡ i
    unfolding probe stops
    none_probe z = ap (λ (p : Bool). Way p (same_bytes (str_at b s (get_or t i 0 % 4294967296)) name)) (eq-eqb (get_or t i 0) 0 z)

    none_free : get_or t i 0 ≡ 0 → free t name i (suc k) ≡ true
    unfolding free
    none_free z = ap (λ (p : Bool). Free p (same_bytes (str_at b s (get_or t i 0 % 4294967296)) name)) (eq-eqb (get_or t i 0) 0 z)

    module _ (n : get_or t i 0 ≡ 0 → ⊥) where
      same_probe : same_bytes (str_at b s (get_or t i 0 % 4294967296)) name ≡ true → probe b s t name i (suc k) ≡ i
      unfolding probe stops
      same_probe e = λ j. Way (ne_eqb (get_or t i 0) 0 n j) (e j)

      same_free : same_bytes (str_at b s (get_or t i 0 % 4294967296)) name ≡ true → free t name i (suc k) ≡ false
      unfolding free
      same_free e = λ j. Free (ne_eqb (get_or t i 0) 0 n j) (e j)

      other_probe : same_bytes (str_at b s (get_or t i 0 % 4294967296)) name ≡ false → probe b s t name i (suc k) ≡ probe b s t name ((i + 1) % 262144) k
      unfolding probe stops
      other_probe e = λ j. Way (ne_eqb (get_or t i 0) 0 n j) (e j)

      other_free : same_bytes (str_at b s (get_or t i 0 % 4294967296)) name ≡ false → free t name i (suc k) ≡ free t name ((i + 1) % 262144) k
      unfolding free
      other_free e = λ j. Free (ne_eqb (get_or t i 0) 0 n j) (e j)

  module _ (t name : List ℕ) where
    -- a free slot at the end of the way
    pub ends_free : (i k : ℕ) → probe b s t name i k < 262144 → get_or t (probe b s t name i k) 0 ≡ 0 → free t name i k ≡ true
    unfolding probe
    ends_free i zero l z = absurd (omega (arith, l))
    ends_free i (suc k) l z =
        elim (look t name i) [
          | none a ↦ none_free t name i k a
          | same n e ↦ absurd (n (sym (ap (λ (j : ℕ). get_or t j 0) (same_probe t name i k n e)) ∙ z))
          | other n e ↦
              let p = other_probe t name i k n e in
              other_free t name i k n e ∙ ends_free ((i + 1) % 262144) k (subst (λ (j : ℕ). j < 262144) p l) (sym (ap (λ (j : ℕ). get_or t j 0) p) ∙ z)
        ]

    pub free_ends : (i k : ℕ) → i < 262144 → free t name i k ≡ true → (probe b s t name i k < 262144) × (get_or t (probe b s t name i k) 0 ≡ 0)
    unfolding free
    free_ends i zero l f = absurd (true≢false (sym f))
    free_ends i (suc k) l f =
        elim (look t name i) [
          | none a ↦ let p = none_probe t name i k a in (subst (λ (j : ℕ). j < 262144) (sym p) l, ap (λ (j : ℕ). get_or t j 0) p ∙ a)
          | same n e ↦ absurd (true≢false (sym f ∙ same_free t name i k n e))
          | other n e ↦
              let p = other_probe t name i k n e in
              let r = free_ends ((i + 1) % 262144) k (omega arith) (sym (other_free t name i k n e) ∙ f) in
              (subst (λ (j : ℕ). j < 262144) (sym p) r.0, ap (λ (j : ℕ). get_or t j 0) p ∙ r.1)
        ]

    -- a slot that is not free has the name
    pub ends_same : (i k : ℕ) → probe b s t name i k < 262144 → (get_or t (probe b s t name i k) 0 ≡ 0 → ⊥) → same_bytes (str_at b s (get_or t (probe b s t name i k) 0 % 4294967296)) name ≡ true
    unfolding probe
    ends_same i zero l n = absurd (omega (arith, l))
    ends_same i (suc k) l n =
        elim (look t name i) [
          | none a ↦ absurd (n (ap (λ (j : ℕ). get_or t j 0) (none_probe t name i k a) ∙ a))
          | same m e ↦ ap (λ (j : ℕ). same_bytes (str_at b s (get_or t j 0 % 4294967296)) name) (same_probe t name i k m e) ∙ e
          | other m e ↦
              let p = other_probe t name i k m e in
              ap (λ (j : ℕ). same_bytes (str_at b s (get_or t j 0 % 4294967296)) name) p
              ∙ ends_same ((i + 1) % 262144) k (subst (λ (j : ℕ). j < 262144) p l) (λ z. n (ap (λ (j : ℕ). get_or t j 0) p ∙ z))
        ]

    -- ---- after an entry v at the free slot q
    module _ (q v : ℕ) (z : get_or t q 0 ≡ 0) where
      aside : (i : ℕ) → (get_or t i 0 ≡ 0 → ⊥) → get_or (set t q v) i 0 ≡ get_or t i 0
      aside i n = get_or-set_other t q i v 0 (λ e. n (ap (λ (j : ℕ). get_or t j 0) e ∙ z))

      aside_some : (i : ℕ) → (get_or t i 0 ≡ 0 → ⊥) → get_or (set t q v) i 0 ≡ 0 → ⊥
      aside_some i n e = n (sym (aside i n) ∙ e)

      aside_name : (i : ℕ) (n : get_or t i 0 ≡ 0 → ⊥) → same_bytes (str_at b s (get_or (set t q v) i 0 % 4294967296)) name ≡ same_bytes (str_at b s (get_or t i 0 % 4294967296)) name
      aside_name i n = ap (λ (u : ℕ). same_bytes (str_at b s (u % 4294967296)) name) (aside i n)

      -- a way that ends elsewhere stays
      pub keeps : (i k : ℕ) → free t name i k ≡ false → free (set t q v) name i k ≡ false
      unfolding free
      keeps i zero f = refl
      keeps i (suc k) f =
          elim (look t name i) [
            | none a ↦ absurd (true≢false (sym (none_free t name i k a) ∙ f))
            | same n e ↦ same_free (set t q v) name i k (aside_some i n) (aside_name i n ∙ e)
            | other n e ↦ other_free (set t q v) name i k (aside_some i n) (aside_name i n ∙ e) ∙ keeps ((i + 1) % 262144) k (sym (other_free t name i k n e) ∙ f)
          ]

      -- the way of the name that is entered ends there
      pub enters : q < length t → q < 262144 → (v ≡ 0 → ⊥) → same_bytes (str_at b s (v % 4294967296)) name ≡ true → (i k : ℕ) → probe b s t name i k ≡ q → free (set t q v) name i k ≡ false
      unfolding probe
      enters l m w e i zero p = absurd (omega (arith, m, p))
      enters l m w e i (suc k) p =
          elim (look t name i) [
            | none a ↦
                let here : get_or (set t q v) i 0 ≡ v = ap (λ (j : ℕ). get_or (set t q v) j 0) (sym (none_probe t name i k a) ∙ p) ∙ get_or-set_same t q v 0 l in
                same_free (set t q v) name i k (λ y. w (sym here ∙ y)) (ap (λ (u : ℕ). same_bytes (str_at b s (u % 4294967296)) name) here ∙ e)
            | same n y ↦ absurd (n (ap (λ (j : ℕ). get_or t j 0) (sym (same_probe t name i k n y) ∙ p) ∙ z))
            | other n y ↦ other_free (set t q v) name i k (aside_some i n) (aside_name i n ∙ y) ∙ enters l m w e ((i + 1) % 262144) k (sym (other_probe t name i k n y) ∙ p)
          ]

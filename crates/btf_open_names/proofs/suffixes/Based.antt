-- Suffixes of keys, and the base of a holder. Assumes nothing.
use Prim.Native.Nat.{ℕ, zero, suc, ◌<◌, ◌≤◌}
use mathlib.Core.Path.{◌≡◌, refl, ap, ap₂, ◌∙◌, sym}
use mathlib.Core.List.{List, [], ◌∷◌}
use mathlib.Core.Bool.{Bool, true, false}
use mathlib.Core.Logic.{⊎_elim}
use native.Mathlib.Omega.{arith}
use lib.Dec.{leb, eqb}
use borrow.Author.Tests.{le-leb, lt-leb}
use Rattle.std.proofs.lemmas.Bool.{cases_lt}
use Rattle.std.proofs.Common.{Option, None, Some}
use Rattle.spec_type_table.specs.Names.{name_at}
use Rattle.btf_open_names.specs.declared.keys.keys.Key.{Key}
use Rattle.btf_open_names.specs.keys.Keys.{space_number, key_list, loaded}
use Rattle.btf_open_names.specs.name_classes.Classes.{key_of}
use Rattle.btf_open_names.specs.filled_work.Takers.{suffix_on, after_underscores, base_from}
use Rattle.btf_open_names.specs.suffixes.Based.{base_with, based}
use Rattle.btf_open_names.specs.declared.suffixes.bases.Base.{Base}
use Rattle.btf_open_causes.proofs.references.First.{or_else, first_from}
use Rattle.btf_open_names.proofs.keys.Spaces.{spaced, numbers_other}
use Rattle.btf_open_names.proofs.filled_work.Holders.{keys_apart, keys_none, keys_some}
use Rattle.btf_open_names.proofs.filled_work.Bytes.{on_none}

-- ---- key_suffix
on_nameless : (x : List ℕ) → 0 ≡ suffix_on x (2 ∷ [])
unfolding suffix_on after_underscores
on_nameless [] = refl
on_nameless (a ∷ x) = sym (go (eqb a 2))
  where
    go : (t : Bool) → elim t as (λ z. ℕ) [ true ↦ suffix_on x [] | false ↦ 0 ] ≡ 0
    go true = on_none x
    go false = refl

module _ (s : List ℕ) (o p : Option Key) where
  pub suffix_none : o ≡ None → 0 ≡ suffix_on (loaded s o) (loaded s p)
  suffix_none e = go p ∙ ap (λ (x : Option Key). suffix_on (loaded s x) (loaded s p)) (sym e)
    where
      go : (y : Option Key) → 0 ≡ suffix_on (key_of s 2 0) (loaded s y)
      go None = keys_none s 2 0 2 0 refl refl
      go (Some y) = keys_apart s 2 0 (space_number y.space) y.name (λ q. spaced y.space (sym q))

  pub suffix_of_none : p ≡ None → 0 ≡ suffix_on (loaded s o) (loaded s p)
  unfolding key_of
  suffix_of_none f = on_nameless (loaded s o) ∙ ap (λ (y : Option Key). suffix_on (loaded s o) (loaded s y)) (sym f)

  module _ (x y : Key) (e : o ≡ Some x) (f : p ≡ Some y) where
    keys : suffix_on (key_list s x) (key_list s y) ≡ suffix_on (loaded s o) (loaded s p)
    keys = ap₂ (λ (k l : Option Key). suffix_on (loaded s k) (loaded s l)) (sym e) (sym f)

    pub suffix_apart : (x.space ≡ y.space → ⊥) → 0 ≡ suffix_on (loaded s o) (loaded s p)
    suffix_apart n = keys_apart s (space_number x.space) x.name (space_number y.space) y.name (numbers_other x.space y.space n) ∙ keys

    pub suffix_some : x.space ≡ y.space → (r : ℕ) → r ≡ suffix_on (name_at s x.name) (name_at s y.name) → r ≡ suffix_on (loaded s o) (loaded s p)
    suffix_some q r t = keys_some s (space_number x.space) x.name (space_number y.space) y.name r (ap space_number q) (spaced x.space) t ∙ keys

-- ---- a holder as a base
module _ (c m : ℕ) where
  pub with_none : m < 2 → None ≡ base_with c m
  unfolding base_with
  with_none l = sym (ap (λ (t : Bool). elim t as (λ z. Option Base) [ true ↦ Some (record { holder = c; number = m }) | false ↦ None ]) (lt-leb 2 m l))

  pub with_some : (v : ℕ) → v ≡ m → 2 ≤ v → Some (record { holder = c; number = v }) ≡ base_with c m
  unfolding base_with
  with_some v e l =
      ap (λ (x : ℕ). Some (record { holder = c; number = x })) e
      ∙ sym (ap (λ (t : Bool). elim t as (λ z. Option Base) [ true ↦ Some (record { holder = c; number = m }) | false ↦ None ]) (le-leb 2 m (omega (arith, e))))

  pub with_not : None ≡ base_with c m → m < 2
  with_not e = ⊎_elim (λ l. l) (λ l. let q : None ≡ Some (record { holder = c; number = m }) = e ∙ sym (with_some m refl l) in absurd (cc)) (cases_lt m 2)

  pub with_is : (o : Base) → Some o ≡ base_with c m → (o ≡ record { holder = c; number = m }) × (2 ≤ m)
  with_is o e = ⊎_elim
      (λ l. let q : Some o ≡ None = e ∙ sym (with_none l) in absurd (cc))
      (λ l. let q : Some o ≡ Some (record { holder = c; number = m }) = e ∙ sym (with_some m refl l) in let f : o ≡ record { holder = c; number = m } = cc in (f, l))
      (cases_lt m 2)

-- ---- the base
module _ (key : ℕ → List ℕ) (h : ℕ) where
  pub based_none : (r : ℕ) → 0 ≡ r → None ≡ based key h r
  unfolding based
  based_none r e = ap (based key h) e

  pub based_some : (c m r : ℕ) → (c ≡ 0 → ⊥) → c ≡ r → m ≡ suffix_on (key c) (key h) → Some (record { holder = c; number = m }) ≡ based key h r
  unfolding based
  based_some zero m r n e f = absurd (n refl)
  based_some (suc c) m r n e f = ap (λ (x : ℕ). Some (record { holder = suc c; number = x })) f ∙ ap (based key h) e

  -- the first holder from c on that is one
  pub based_first : (f c : ℕ) → (c ≡ 0 → ⊥) → first_from (λ (j : ℕ). base_with j (suffix_on (key j) (key h))) c f ≡ based key h (base_from key h f c)
  unfolding based base_from base_with
  based_first zero c n = refl
  based_first (suc f) c n = go (leb 2 (suffix_on (key c) (key h))) (based_first f (suc c) (λ q. omega (arith, q)))
    where
      go : (t : Bool) → first_from (λ (j : ℕ). base_with j (suffix_on (key j) (key h))) (suc c) f ≡ based key h (base_from key h f (suc c))
          → or_else (elim t as (λ z. Option Base) [ true ↦ Some (record { holder = c; number = suffix_on (key c) (key h) }) | false ↦ None ]) (first_from (λ (j : ℕ). base_with j (suffix_on (key j) (key h))) (suc c) f)
          ≡ based key h (elim t as (λ z. ℕ) [ true ↦ c | false ↦ base_from key h f (suc c) ])
      go true i = based_some c (suffix_on (key c) (key h)) c n refl refl
      go false i = i

  -- without a space there is none
  nothing_from : ((c : ℕ) → suffix_on (key c) (key h) ≡ 0) → (f c : ℕ) → 0 ≡ base_from key h f c
  unfolding base_from
  nothing_from z zero c = refl
  nothing_from z (suc f) c =
      nothing_from z f (suc c)
      ∙ sym (ap (λ (t : Bool). elim t as (λ z. ℕ) [ true ↦ c | false ↦ base_from key h f (suc c) ]) (lt-leb 2 (suffix_on (key c) (key h)) (omega (arith, z c))))

pub spaceless : (key : ℕ → List ℕ) (h n : ℕ) (s : List ℕ) → key_of s 2 0 ≡ key h → None ≡ based key h (base_from key h n 1)
unfolding key_of
spaceless key h n s e = based_none key h _ (nothing_from key h (λ c. ap (suffix_on (key c)) (sym e) ∙ sym (on_nameless (key c))) n 1)

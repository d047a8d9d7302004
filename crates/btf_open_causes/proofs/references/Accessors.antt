-- The accessors: a law for each return, and what is so of every table. Assumes nothing.
use Prim.Native.Nat.{ℕ, zero, suc, ◌+◌, ◌-◌, ◌/◌, ◌%◌, ◌<◌, ◌≤◌}
use mathlib.Core.Path.{◌≡◌, refl, ap, ◌∙◌, sym}
use mathlib.Core.Bool.{Bool, true, false, true≢false}
use mathlib.Core.List.{List, [], ◌∷◌}
use mathlib.Core.Logic.{◌⊎◌, inl, inr}
use native.Mathlib.Omega.{arith}
use native.Mathlib.Decide.{ℕ_discrete}
use lib.ListN.{get_or}
use lib.Dec.{eqb}
use borrow.Author.Tests.{lt-ltb, eqb-true, ne_eqb}
use Rattle.spec_type_table.specs.declared.types.TypeTable.{TypeTable}
use Rattle.spec_type_table.specs.Records.{section_word, vlen_of, member_at, param_at}
use Rattle.btf_open_causes.specs.references.Followed.{is_kind_among, type_count, entry_at, place_of, kind_at, composites, targets, count_for, id_place, count_at, id_at, followed_id}

-- f is t at lo, lo + 1, .., n of them
abbrev pub Steady : (ℕ → Bool) → Bool → ℕ → ℕ → Type 0
Steady f t lo zero = Unit {0}
Steady f t lo (suc n) = (f lo ≡ t) × Steady f t (suc lo) n

pub steady : (f : ℕ → Bool) (t : Bool) (lo n k : ℕ) → Steady f t lo n → lo ≤ k → k < lo + n → f k ≡ t
steady f t lo zero k h a b = absurd (omega arith)
steady f t lo (suc n) k h a b = elim (ℕ_discrete k lo) [ yes e ↦ ap f e ∙ h.0 | no ne ↦ steady f t (suc lo) n k h.1 (omega arith) (omega arith) ]

-- k is none of a list
abbrev pub Apart : List ℕ → ℕ → Type 0
Apart [] k = Unit {0}
Apart (a ∷ l) k = (k ≡ a → ⊥) × Apart l k

pub apart : (l : List ℕ) (k : ℕ) → Apart l k → is_kind_among l k ≡ false
unfolding is_kind_among
apart [] k h = refl
apart (a ∷ l) k h = rw (ne_eqb k a h.0, is_kind_among) (apart l k h.1)

-- what is so of each of a list
abbrev pub Each : (ℕ → Bool) → Bool → List ℕ → Type 0
Each f t [] = Unit {0}
Each f t (a ∷ l) = (f a ≡ t) × Each f t l

pub each : (f : ℕ → Bool) (t : Bool) (l : List ℕ) (k : ℕ) → Each f t l → is_kind_among l k ≡ true → f k ≡ t
unfolding is_kind_among
each f t [] k h e = absurd (true≢false (sym e))
each f t (a ∷ l) k h e = go (eqb k a) refl e (each f t l k h.1)
  where
    go : (u : Bool) → eqb k a ≡ u → (elim u as (λ z. Bool) [ true ↦ true | false ↦ is_kind_among l k ]) ≡ true → (is_kind_among l k ≡ true → f k ≡ t) → f k ≡ t
    go true p q ih = ap f (eqb-true k a p) ∙ h.0
    go false p q ih = ih q

pub no_composite : (k : ℕ) → (k < 4) ⊎ (6 ≤ k) → is_kind_among composites k ≡ false
no_composite k (inl h) = apart composites k (omega arith, (omega arith, tt))
no_composite k (inr h) = apart composites k (omega arith, (omega arith, tt))

module _ (k v : ℕ) where
  target : is_kind_among targets k ≡ true → 1 ≡ count_for k v
  unfolding count_for
  target e = rw (count_for, e)

  pub count_pointer : 2 ≤ k → k < 4 → 1 ≡ count_for k v
  unfolding is_kind_among
  count_pointer a b = target (steady (is_kind_among targets) true 2 2 k (refl, (refl, tt)) a b)

  pub count_through : 8 ≤ k → k < 12 → 1 ≡ count_for k v
  unfolding is_kind_among
  count_through a b = target (steady (is_kind_among targets) true 8 4 k (refl, (refl, (refl, (refl, tt)))) a b)

  pub count_tag : k ≡ 18 → 1 ≡ count_for k v
  unfolding is_kind_among
  count_tag e = target (rw e)

  pub count_members : 4 ≤ k → k < 6 → v ≡ count_for k v
  unfolding count_for is_kind_among
  count_members a b = rw (count_for, steady (is_kind_among targets) false 4 2 k (refl, (refl, tt)) a b, steady (is_kind_among composites) true 4 2 k (refl, (refl, tt)) a b)

  pub count_proto : k ≡ 13 → v + 1 ≡ count_for k v
  unfolding count_for is_kind_among
  count_proto e = rw e

  pub count_none : (k ≡ 13 → ⊥) → (k ≡ 18 → ⊥) → (k < 2) ⊎ ((6 ≤ k) × (k < 8)) ⊎ (12 ≤ k) → 0 ≡ count_for k v
  unfolding count_for
  count_none m n o = rw (count_for, off_targets o, off_composites o, ne_eqb k 13 m)
    where
      off_targets : (k < 2) ⊎ ((6 ≤ k) × (k < 8)) ⊎ (12 ≤ k) → is_kind_among targets k ≡ false
      off_targets (inl h) = apart targets k (omega arith, (omega arith, (omega arith, (omega arith, (omega arith, (omega arith, (n, tt)))))))
      off_targets (inr (inl h)) = apart targets k (omega arith, (omega arith, (omega arith, (omega arith, (omega arith, (omega arith, (n, tt)))))))
      off_targets (inr (inr h)) = apart targets k (omega arith, (omega arith, (omega arith, (omega arith, (omega arith, (omega arith, (n, tt)))))))

      off_composites : (k < 2) ⊎ ((6 ≤ k) × (k < 8)) ⊎ (12 ≤ k) → is_kind_among composites k ≡ false
      off_composites (inl h) = no_composite k (inl (omega arith))
      off_composites (inr (inl h)) = no_composite k (inr h.0)
      off_composites (inr (inr h)) = no_composite k (inr (omega arith))

module _ (kind at k : ℕ) where
  pub id_element : kind ≡ 3 → at + 12 ≡ id_place kind at k
  unfolding id_place
  id_element e = rw e

  pub id_members : 4 ≤ kind → kind < 6 → (q : ℕ) → q ≡ member_at at k → q + 4 ≡ id_place kind at k
  unfolding id_place is_kind_among
  id_members a b q e = rw (id_place, ne_eqb kind 3 (omega arith), steady (is_kind_among composites) true 4 2 kind (refl, (refl, tt)) a b, e)

  pub id_result : kind ≡ 13 → k ≡ 0 → at + 8 ≡ id_place kind at k
  unfolding id_place is_kind_among
  id_result e f = rw (e, f)

  pub id_param : kind ≡ 13 → (k ≡ 0 → ⊥) → (q : ℕ) → q ≡ param_at at (k - 1) → q + 4 ≡ id_place kind at k
  unfolding id_place is_kind_among
  id_param e n q f = rw (e, id_place, ne_eqb k 0 n, f)

  pub id_target : (kind ≡ 3 → ⊥) → is_kind_among composites kind ≡ false → (kind ≡ 13 → ⊥) → at + 8 ≡ id_place kind at k
  unfolding id_place
  id_target m e n = rw (id_place, ne_eqb kind 3 m, e, ne_eqb kind 13 n)

module _ (b : TypeTable) (start : List ℕ) (x : ℕ) (m : x ≡ 0 → ⊥) (n : ℕ) (e : n ≡ type_count b) (h : x < n) where
  pub entry_in : get_or start x 0 ≡ entry_at b start x
  unfolding entry_at
  entry_in = rw (entry_at, ne_eqb x 0 m, ← e, lt-ltb x n h)

module _ (b : TypeTable) (s : List ℕ) (kind at v r : ℕ) (e : v ≡ vlen_of (section_word b s (at + 4))) where
  -- the count of a record, by the vlen that was read
  pub count_by : r ≡ count_for kind v → r ≡ count_at b s kind at
  unfolding count_at
  count_by f = rw (← e) f

-- and where vlen is not read
pub count_any : (b : TypeTable) (s : List ℕ) (kind at r : ℕ) → r ≡ count_for kind (vlen_of (section_word b s (at + 4))) → r ≡ count_at b s kind at
unfolding count_at
count_any b s kind at r f = f

pub id_is : (b : TypeTable) (s : List ℕ) (kind at k q r : ℕ) → q ≡ id_place kind at k → r ≡ section_word b s q → r ≡ id_at b s kind at k
unfolding id_at
id_is b s kind at k q r f g = rw (← f) g

-- by the place p that the entry i tells
module _ (b : TypeTable) (s : List ℕ) (i p : ℕ) (e : p ≡ i / 32) (r : ℕ) where
  pub count_told : r ≡ count_at b s (i % 32) p → r ≡ count_at b s (i % 32) (i / 32)
  count_told f = f ∙ ap (count_at b s (i % 32)) e

  pub id_told : (k : ℕ) → r ≡ id_at b s (i % 32) p k → r ≡ id_at b s (i % 32) (i / 32) k
  id_told k f = f ∙ ap (λ (q : ℕ). id_at b s (i % 32) q k) e

-- a type by its entry
module _ (b : TypeTable) (start : List ℕ) (x i : ℕ) (e : i ≡ entry_at b start x) where
  pub kind_is : i % 32 ≡ kind_at b start x
  unfolding kind_at
  kind_is = ap (λ (n : ℕ). n % 32) e

  pub place_is : i / 32 ≡ place_of b start x
  unfolding place_of
  place_is = ap (λ (n : ℕ). n / 32) e

  module _ (s : List ℕ) (r : ℕ) where
    pub followed_is : (k : ℕ) → r ≡ id_at b s (i % 32) (i / 32) k → r ≡ followed_id b s start x k
    unfolding followed_id
    followed_is k f = rw (← kind_is, ← place_is) f

-- "A type's name is kept": once a type has a version, it has that version for good.
use Prim.Native.Nat.{ℕ, zero, suc, ◌+◌, ◌<◌}
use native.Mathlib.Decide.{ℕ_discrete}
use native.Mathlib.Omega.{arith}
use mathlib.Core.Path.{◌≡◌, refl, sym, ◌∙◌, ap, subst}
use mathlib.Core.Bool.{Bool, true, false, true≢false}
use mathlib.Core.List.{List}
use mathlib.Core.Logic.{◌≢◌}
use lib.ListN.{length, get_or, set, length-set}
use lib.Seq.{get_or-set_same, get_or-set_other}
use lib.Dec.{ltb, eqb}
use borrow.Author.Tests.{ltb-false, ne_eqb}
use Rattle.spec_bytes.specs.words.Words.{one_more, pick}
use Rattle.spec_c_dumper.specs.rules.Types.{Name, Btf}
use Rattle.spec_c_dumper.specs.rules.Names.{Space, Resolved, Naming, Names, naming, type_version, value_version, holders, with_one}
use Rattle.spec_c_dumper.proofs.rules.Refusals.{Passing, type_passing, value_passing}
use Rattle.spec_c_dumper.specs.names_apart.Naming.{of_type, Apart, is_name_among, taken, passing, number_for, shown, type_apart, value_apart, apart}
use Rattle.spec_c_dumper.specs.rules.Names.{spelled}

-- Of n types. Sound: of the names at all times. Holds u id v: type id has the version v.
pub record Keeping {U : Type 0} (N : Naming U) (n : ℕ) (Sound : U → Type 0) (Holds : U → ℕ → ℕ → Type 0) : Type 0 where
  pub sound_type : (space : Space) (id : ℕ) (name : Name) (u : U) → Sound u → Sound (N.type_version space id name u).names
  pub sound_value : (id i : ℕ) (name : Name) (u : U) → Sound u → Sound (N.value_version id i name u).names
  pub takes : (space : Space) (id : ℕ) (name : Name) (u : U) → Sound u → id < n → Holds (N.type_version space id name u).names id (N.type_version space id name u).version
  pub gives : (space : Space) (id : ℕ) (name : Name) (u : U) (v : ℕ) → Holds u id v → (N.type_version space id name u).version ≡ v
  pub keeps_type : (space : Space) (id : ℕ) (name : Name) (u : U) (x v : ℕ) → Holds u x v → Holds (N.type_version space id name u).names x v
  pub keeps_value : (id i : ℕ) (name : Name) (u : U) (x v : ℕ) → Holds u x v → Holds (N.value_version id i name u).names x v
  pub sound_leaving : (h u : U) → Sound u → Sound (N.leaving h u)
  pub keeps_leaving : (h u : U) (x v : ℕ) → Holds u x v → Holds (N.leaving h u) x v

-- ---- a list with the version of each type, 0 while it has none
abbrev HasIn : List ℕ → ℕ → ℕ → Type 0
HasIn vs id v = (get_or vs id 0 ≡ v) × (eqb v 0 ≡ false)

-- `type_version` of such names, by whether the type has no version yet: k is the new one; stay and next are the names after it
module _ {U : Type 0} (versions : U → List ℕ) (n id k : ℕ) (some : k ≢ 0) (u stay next : U) (stays : versions stay ≡ versions u) (sets : versions next ≡ set (versions u) id k) where
  abbrev by : Bool → Resolved U
  by b = elim b as (λ (t : Bool). Resolved U) [ false ↦ record { passes = false; version = get_or (versions u) id 0; names = stay } | true ↦ record { passes = false; version = k; names = next } ]

  within_by : (b : Bool) → (by b).passes ≡ false
  within_by true = refl
  within_by false = refl

  sound_by : (b : Bool) → length (versions u) ≡ n → length (versions (by b).names) ≡ n
  sound_by true h = ap length sets ∙ length-set (versions u) id k ∙ h
  sound_by false h = ap length stays ∙ h

  takes_by : (b : Bool) → eqb (get_or (versions u) id 0) 0 ≡ b → length (versions u) ≡ n → id < n → HasIn (versions (by b).names) id (by b).version
  takes_by true e h l = (ap (λ (vs : List ℕ). get_or vs id 0) sets ∙ get_or-set_same (versions u) id k 0 (subst (λ (m : ℕ). id < m) (sym h) l), ne_eqb k 0 some)
  takes_by false e h l = (ap (λ (vs : List ℕ). get_or vs id 0) stays, e)

  gives_by : (b : Bool) → eqb (get_or (versions u) id 0) 0 ≡ b → (v : ℕ) → HasIn (versions u) id v → (by b).version ≡ v
  gives_by true e v h = absurd (true≢false (sym e ∙ ap (λ (m : ℕ). eqb m 0) h.0 ∙ h.1))
  gives_by false e v h = h.0

  keeps_by : (b : Bool) → eqb (get_or (versions u) id 0) 0 ≡ b → (x v : ℕ) → HasIn (versions u) x v → HasIn (versions (by b).names) x v
  keeps_by true e x v h = go (ℕ_discrete x id)
    where
      go : Dec (x ≡ id) → HasIn (versions next) x v
      go (yes q) = absurd (true≢false (sym e ∙ ap (λ (m : ℕ). eqb m 0) (ap (λ (m : ℕ). get_or (versions u) m 0) (sym q) ∙ h.0) ∙ h.1))
      go (no q) = (ap (λ (vs : List ℕ). get_or vs x 0) sets ∙ get_or-set_other (versions u) id x k 0 q ∙ h.0, h.1)
  keeps_by false e x v h = (ap (λ (vs : List ℕ). get_or vs x 0) stays ∙ h.0, h.1)

one_no_zero : (n : ℕ) → one_more n ≢ 0
unfolding one_more
one_no_zero n = go (ltb n 4294967295) refl
  where
    go : (b : Bool) → ltb n 4294967295 ≡ b → pick b (n + 1) n ≡ 0 → ⊥
    go true q e = omega arith
    go false q e = omega (arith, ltb-false n 4294967295 q)

-- ---- the names of the Rust
abbrev pub Sized : ℕ → Names → Type 0
Sized n u = length u.versions ≡ n

abbrev pub Has : Names → ℕ → ℕ → Type 0
Has u id v = HasIn u.versions id v

module _ (n : ℕ) (space : Space) (id : ℕ) (name : Name) (u : Names) where
  abbrev new : ℕ
  new = one_more (holders u.ledger space name)

  abbrev after : Names
  after = record { versions = set u.versions id new; ledger = with_one u.ledger space name }

  some : new ≢ 0
  some = one_no_zero (holders u.ledger space name)

pub naming_keeps : (n : ℕ) → Keeping naming n (Sized n) Has
unfolding type_version value_version
naming_keeps n = record {
  sound_type = λ space id name u h. sound_by (λ (w : Names). w.versions) n id (new n space id name u) (some n space id name u) u u (after n space id name u) refl refl (eqb (get_or u.versions id 0) 0) h;
  sound_value = λ id i name u h. h;
  takes = λ space id name u h l. takes_by (λ (w : Names). w.versions) n id (new n space id name u) (some n space id name u) u u (after n space id name u) refl refl (eqb (get_or u.versions id 0) 0) refl h l;
  gives = λ space id name u v h. gives_by (λ (w : Names). w.versions) n id (new n space id name u) (some n space id name u) u u (after n space id name u) refl refl (eqb (get_or u.versions id 0) 0) refl v h;
  keeps_type = λ space id name u x v h. keeps_by (λ (w : Names). w.versions) n id (new n space id name u) (some n space id name u) u u (after n space id name u) refl refl (eqb (get_or u.versions id 0) 0) refl x v h;
  keeps_value = λ id i name u x v h. h;
  sound_leaving = λ h u q. q;
  keeps_leaving = λ h u x v q. q;
}

-- ---- names that cannot collide
abbrev pub SizedApart : ℕ → Apart → Type 0
SizedApart n u = Sized n u.names

abbrev pub HasApart : Apart → ℕ → ℕ → Type 0
HasApart u id v = Has u.names id v

if_no_zero : (b : Bool) (k m : ℕ) → k ≢ 0 → m ≢ 0 → ◌≡◌ {A = ℕ} (elim b [ true ↦ k | false ↦ m ]) 0 → ⊥
if_no_zero true k m h q = h
if_no_zero false k m h q = q

passing_no_zero : (t : ℕ → Bool) (most n : ℕ) → n ≢ 0 → passing t most n ≢ 0
unfolding passing
passing_no_zero t zero n h = h
passing_no_zero t (suc most) n h = if_no_zero (t n) (passing t most (one_more n)) n (passing_no_zero t most (one_more n) (one_no_zero n)) h

module _ (B : Btf) (n : ℕ) (space : Space) (id : ℕ) (name : Name) (u : Apart) where
  number_no_zero : number_for B space name u ≢ 0
  unfolding number_for
  number_no_zero = if_no_zero (eqb (holders u.names.ledger space name) 0) 1 _ (λ e. omega (arith, e))
      (passing_no_zero (λ m. is_name_among (spelled name m) (taken B space u)) (length (taken B space u)) (one_more (holders u.names.ledger space name)) (one_no_zero (holders u.names.ledger space name)))

  abbrev stay : Apart
  stay = record { names = u.names; printed = shown space (of_type id) name (get_or u.names.versions id 0) u }

  abbrev next : Apart
  next = record {
    names = record { versions = set u.names.versions id (number_for B space name u); ledger = with_one u.names.ledger space name };
    printed = shown space (of_type id) name (number_for B space name u) u;
  }

pub apart_keeps : (B : Btf) (n : ℕ) → Keeping (apart B) n (SizedApart n) HasApart
unfolding type_apart value_apart
apart_keeps B n = record {
  sound_type = λ space id name u h. sound_by (λ (w : Apart). w.names.versions) n id (number_for B space name u) (number_no_zero B n space id name u) u (stay B n space id name u) (next B n space id name u) refl refl (eqb (get_or u.names.versions id 0) 0) h;
  sound_value = λ id i name u h. h;
  takes = λ space id name u h l. takes_by (λ (w : Apart). w.names.versions) n id (number_for B space name u) (number_no_zero B n space id name u) u (stay B n space id name u) (next B n space id name u) refl refl (eqb (get_or u.names.versions id 0) 0) refl h l;
  gives = λ space id name u v h. gives_by (λ (w : Apart). w.names.versions) n id (number_for B space name u) (number_no_zero B n space id name u) u (stay B n space id name u) (next B n space id name u) refl refl (eqb (get_or u.names.versions id 0) 0) refl v h;
  keeps_type = λ space id name u x v h. keeps_by (λ (w : Apart). w.names.versions) n id (number_for B space name u) (number_no_zero B n space id name u) u (stay B n space id name u) (next B n space id name u) refl refl (eqb (get_or u.names.versions id 0) 0) refl x v h;
  keeps_value = λ id i name u x v h. h;
  sound_leaving = λ h u q. q;
  keeps_leaving = λ h u x v q. q;
}

-- no name of these passes
pub naming_never : Passing naming → ⊥
unfolding type_version value_version
naming_never (type_passing space id name u e) =
    true≢false (sym e ∙ within_by (λ (w : Names). w.versions) 0 id (new 0 space id name u) (some 0 space id name u) u u (after 0 space id name u) refl refl (eqb (get_or u.versions id 0) 0))
naming_never (value_passing id i name u e) = true≢false (sym e)

pub apart_never : (B : Btf) → Passing (apart B) → ⊥
unfolding type_apart value_apart
apart_never B (type_passing space id name u e) =
    true≢false (sym e ∙ within_by (λ (w : Apart). w.names.versions) 0 id (number_for B space name u) (number_no_zero B 0 space id name u) u (stay B 0 space id name u) (next B 0 space id name u) refl refl (eqb (get_or u.names.versions id 0) 0))
apart_never B (value_passing id i name u e) = true≢false (sym e)

-- A law for each return of the code, and for each loop its start, its turn and its end. Assumes nothing.
use Prim.Native.Nat.{ℕ, zero, suc, ◌+◌, ◌/◌, ◌%◌, ◌<◌, ◌≤◌}
use native.Mathlib.Omega.{arith}
use native.Mathlib.Numerals.{add-one}
use mathlib.Core.Path.{◌≡◌, refl, sym, ◌∙◌, ap, subst}
use mathlib.Core.Bool.{Bool, true, false, not, true≢false}
use mathlib.Core.List.{List}
use lib.ListN.{length, get_or, set}
use lib.Dec.{ltb, eqb}
use lib.Seq.{set_out}
use mathlib.Core.Logic.{⊎_elim}
use borrow.Author.Tests.{eq-eqb, ne_eqb, lt-ltb, le-ltb}
use Rattle.std.proofs.lemmas.Bool.{cases_lt}
use Rattle.spec_type_table.specs.declared.types.TypeTable.{TypeTable}
use Rattle.std.proofs.lemmas.List.{get_or_past}
use Rattle.spec_type_table.specs.Records.{section_word}
use Rattle.btf_open_causes.specs.references.Followed.{entry_at, kind_at, place_of}
use Rattle.std.proofs.Common.{Option, Some, None}
use Rattle.std.specs.Option.{is_some}
use Rattle.session_cut_marks.specs.tags.Tags.{some_number, tag_on, tagged_at, tagged_to, Numbered, numbered, numbers_in, numbered_at, numbered_to, numbers_of}

pub some_is : (n : ℕ) → (n ≡ 0 → ⊥) → some_number n ≡ Some n
unfolding some_number
some_is zero h = absurd (h refl)
some_is (suc n) h = refl

-- the number that there is
some_of : (n t : ℕ) → some_number n ≡ Some t → (n ≡ 0 → ⊥) × (t ≡ n)
unfolding some_number
some_of zero t h = cc
some_of (suc n) t h = (λ e. cc, cc)

pub none_is : (n : ℕ) → n ≡ 0 → None ≡ some_number n
unfolding some_number
none_is n h = rw (h, some_number)

-- the record stands at the place of its entry
pub target_word : (b : TypeTable) (s : List ℕ) (e a t : ℕ) → a ≡ e / 32 → t ≡ section_word b s (a + 8) → t ≡ section_word b s (e / 32 + 8)
target_word b s e a t d h = h ∙ ap (λ (n : ℕ). section_word b s (n + 8)) d

none_of : (n : ℕ) → some_number n ≡ None → n ≡ 0
unfolding some_number
none_of zero h = refl
none_of (suc n) h = cc

-- a test of whether there is one
none_zero : (n : ℕ) → is_some (some_number n) ≡ false → n ≡ 0
unfolding some_number
none_zero zero g = refl
none_zero (suc n) g = absurd (true≢false g)

module _ (r : Option ℕ) (n : ℕ) (e : r ≡ some_number n) (t : Bool) (h : is_some r ≡ not t) where
  pub is_none_of : t ≡ true → n ≡ 0
  is_none_of q = none_zero n (ap is_some (sym e) ∙ h ∙ ap not q)

  pub isnt_none_of : t ≡ false → n ≡ 0 → ⊥
  isnt_none_of q z = true≢false (sym (ap is_some (none_is n z ∙ sym e) ∙ h ∙ ap not q))

module _ (b : TypeTable) (s start : List ℕ) where
  -- ---- tags
  module _ (x e : ℕ) (q : e ≡ entry_at b start x) where
    kind_of : e % 32 ≡ kind_at b start x
    unfolding kind_at
    kind_of = ap (λ (k : ℕ). k % 32) q

    pub tag_none : (e % 32 ≡ 17 → ⊥) → None ≡ some_number (tag_on b s start x)
    unfolding tag_on some_number
    tag_none n = rw (ne_eqb (kind_at b start x) 17 (λ z. n (kind_of ∙ z)))

    module _ (is : e % 32 ≡ 17) (t : ℕ) (w : t ≡ section_word b s (e / 32 + 8)) (k : ℕ) (v : k ≡ kind_at b start t) where
      target : t ≡ section_word b s (place_of b start x + 8)
      unfolding place_of
      target = w ∙ ap (λ (z : ℕ). section_word b s (z / 32 + 8)) q

      kind_target : k ≡ kind_at b start (section_word b s (place_of b start x + 8))
      kind_target = v ∙ ap (kind_at b start) target

      pub tag_of_tag : k ≡ 17 → None ≡ some_number (tag_on b s start x)
      unfolding tag_on some_number
      tag_of_tag z = rw (eq-eqb (kind_at b start x) 17 (sym kind_of ∙ is), eq-eqb (kind_at b start (section_word b s (place_of b start x + 8))) 17 (sym kind_target ∙ z))

      pub tag_of_type : (k ≡ 17 → ⊥) → t ≡ tag_on b s start x
      unfolding tag_on
      tag_of_type z = target ∙ rw (eq-eqb (kind_at b start x) 17 (sym kind_of ∙ is), ne_eqb (kind_at b start (section_word b s (place_of b start x + 8))) 17 (λ u. z (kind_target ∙ u)))

      pub tag_of_void : (k ≡ 17 → ⊥) → t ≡ 0 → None ≡ some_number (tag_on b s start x)
      unfolding some_number
      tag_of_void z h = ap some_number (sym h ∙ tag_of_type z)

      pub tag_of_other : (k ≡ 17 → ⊥) → (t ≡ 0 → ⊥) → Some t ≡ some_number (tag_on b s start x)
      tag_of_other z h = sym (some_is t h) ∙ ap some_number (tag_of_type z)

  module _ (m : List ℕ) (x : ℕ) (r : Option ℕ) (e : r ≡ some_number (tag_on b s start x)) where
    pub no_tag : r ≡ None → m ≡ tagged_at b s start m x
    unfolding tagged_at
    no_tag z = rw (eq-eqb (tag_on b s start x) 0 (none_of (tag_on b s start x) (sym e ∙ z)), tagged_at)

    module _ (t : ℕ) (i : r ≡ Some t) (v : ℕ) (w : v ≡ get_or m t 0) where
      nz : t ≡ 0 → ⊥
      nz u = let f = some_of (tag_on b s start x) t (sym e ∙ i) in f.0 (sym f.1 ∙ u)

      q : t ≡ tag_on b s start x
      q = (some_of (tag_on b s start x) t (sym e ∙ i)).1

      found : v ≡ get_or m (tag_on b s start x) 0
      found = w ∙ ap (λ (z : ℕ). get_or m z 0) q

      pub tag_unmarked : v ≡ 0 → m ≡ tagged_at b s start m x
      unfolding tagged_at
      tag_unmarked z = rw (ne_eqb (tag_on b s start x) 0 (λ u. nz (q ∙ u)), tagged_at, eq-eqb (get_or m (tag_on b s start x) 0) 0 (sym found ∙ z))

      tag_inside : (v ≡ 0 → ⊥) → x < length m → set m x 1 ≡ tagged_at b s start m x
      unfolding tagged_at
      tag_inside z l = rw (ne_eqb (tag_on b s start x) 0 (λ u. nz (q ∙ u)), tagged_at, ne_eqb (get_or m (tag_on b s start x) 0) 0 (λ u. z (found ∙ u)), lt-ltb x (length m) l)

      pub tag_past : (v ≡ 0 → ⊥) → length m ≤ x → m ≡ tagged_at b s start m x
      unfolding tagged_at
      tag_past z l = rw (ne_eqb (tag_on b s start x) 0 (λ u. nz (q ∙ u)), tagged_at, ne_eqb (get_or m (tag_on b s start x) 0) 0 (λ u. z (found ∙ u)), le-ltb x (length m) l)

      pub tag_marked : (v ≡ 0 → ⊥) → set m x 1 ≡ tagged_at b s start m x
      tag_marked z = ⊎_elim (tag_inside z) (λ l. set_out m x 1 l ∙ tag_past z l) (cases_lt x (length m))

  pub none_tagged : (m : List ℕ) → m ≡ tagged_to b s start m 0
  unfolding tagged_to
  none_tagged m = refl

  pub more_tagged : (m₀ m m' : List ℕ) (x : ℕ) → m ≡ tagged_to b s start m₀ x → m' ≡ tagged_at b s start m x → m' ≡ tagged_to b s start m₀ (x + 1)
  unfolding tagged_to
  more_tagged m₀ m m' x e p = rw add-one (p ∙ ap (λ (l : List ℕ). tagged_at b s start l x) e)

-- ---- numbers
module _ (m : List ℕ) (c x v : ℕ) (q : v ≡ get_or m x 0) where
  pub number_none : v ≡ 0 → numbered m c ≡ numbered_at (numbered m c) x
  unfolding numbered_at
  number_none z = rw (eq-eqb (get_or m x 0) 0 (sym q ∙ z), numbered_at)

  pub number_next : (v ≡ 0 → ⊥) → numbered (set m x (c + 1)) (c + 1) ≡ numbered_at (numbered m c) x
  unfolding numbered_at
  number_next z =
      let l : x < length m = ⊎_elim (λ h. h) (λ h. absurd (z (q ∙ get_or_past m x 0 h))) (cases_lt x (length m)) in
      rw (ne_eqb (get_or m x 0) 0 (λ u. z (q ∙ u)), numbered_at, lt-ltb x (length m) l, add-one)

abbrev last_in : Numbered → ℕ
last_in (numbered m c) = c

at_most : (m : List ℕ) (c x : ℕ) → last_in (numbered_at (numbered m c) x) ≤ c + 1
unfolding numbered_at
at_most m c x = go (eqb (get_or m x 0) 0) (ltb x (length m))
  where
    go : (a b : Bool) → last_in (elim a as (λ q. Numbered) [ true ↦ numbered m c | false ↦ elim b as (λ q. Numbered) [ true ↦ numbered (set m x (suc c)) (suc c) | false ↦ numbered m c ] ]) ≤ c + 1
    go true b = omega arith
    go false true = omega arith
    go false false = omega arith

pub number_up : (m : List ℕ) (c x : ℕ) (m' : List ℕ) (r : ℕ) → numbered m' r ≡ numbered_at (numbered m c) x → r ≤ c + 1
number_up m c x m' r e = subst (λ (k : ℕ). k ≤ c + 1) (sym (ap last_in e)) (at_most m c x)

pub none_numbered : (m : List ℕ) → numbered m 0 ≡ numbered_to (numbered m 0) 0
unfolding numbered_to
none_numbered m = refl

pub more_numbered : (m₀ m : List ℕ) (c x : ℕ) (m' : List ℕ) (r : ℕ) → numbered m c ≡ numbered_to (numbered m₀ 0) x → numbered m' r ≡ numbered_at (numbered m c) x → numbered m' r ≡ numbered_to (numbered m₀ 0) (x + 1)
unfolding numbered_to
more_numbered m₀ m c x m' r e p = rw add-one (p ∙ ap (λ (h : Numbered). numbered_at h x) e)

pub all_numbered : (m₀ m : List ℕ) (c x : ℕ) → x ≤ 262145 → 262145 ≤ x → numbered m c ≡ numbered_to (numbered m₀ 0) x → m ≡ numbers_of m₀
unfolding numbers_of
all_numbered m₀ m c x l g e = let z : x ≡ 262145 = omega (arith, l, g) in ap numbers_in (e ∙ ap (numbered_to (numbered m₀ 0)) z)

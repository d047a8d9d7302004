-- The pass over the records: a law for each return. Assumes nothing.
use Prim.Native.Nat.{ℕ, zero, suc, zero-le, ◌+◌, ◌-◌, ◌*◌, ◌/◌, ◌%◌, ◌<◌, ◌≤◌}
use mathlib.Core.Path.{◌≡◌, refl, ap, ◌∙◌, sym}
use mathlib.Core.Bool.{Bool, true, false, true≢false, ◌&&◌}
use mathlib.Core.List.{List, [], ◌∷◌}
use Rattle.std.specs.Prelude.{Option, Some, None}
use Rattle.std.specs.List.{list_all, range_with_len}
use Rattle.std.proofs.lemmas.Bool.{and_left as no_left, and_right as no_right, cases_lt}
use Rattle.std.specs.Cmp.{first_so, second_so}
use mathlib.Core.Logic.{⊎_elim, ◌⊎◌, inl, inr}
use native.Mathlib.Omega.{arith}
use native.Mathlib.Decide.{ℕ_discrete}
use native.Mathlib.Nat.{mul_comm}
use lib.ListN.{set, get_or-eq_default}
use lib.Dec.{ltb, leb, eqb}
use borrow.Author.Tests.{lt-ltb, le-ltb, le-leb, lt-leb, ne_eqb, leb-true}
use Rattle.spec_bytes.specs.words.Words.{pick}
use Rattle.spec_type_table.specs.declared.types.TypeTable.{TypeTable}
use Rattle.spec_type_table.specs.Records.{section_word, vlen_of, kind_of, extra_of}
use Rattle.spec_linux_btf.specs.Reading.{Kind, none, INT, PTR, ARRAY, STRUCT, UNION, ENUM, FWD, TYPEDEF, VOLATILE, CONST, RESTRICT, FUNC, FUNC-PROTO, VAR, DATASEC, FLOAT, DECL-TAG, TYPE-TAG, ENUM64, kind, Shape, bad, fixed, each, shape, known, extra, extra_of as length_of}
use Rattle.spec_linux_btf.specs.Section.{word_of}
use Rattle.spec_linux_btf.specs.Places.{kind_p, vlen_p, size_p, all_named_p, entries_named_p, sound_p, named_p, passes_p, place_from}
use Rattle.btf_open_causes.specs.declared.header.Header.{Header}
use Rattle.btf_open_causes.specs.header.Header.{header_of}
use Rattle.btf_open_causes.specs.records.Pass.{entry_width, named_by, enums_of, next_p, count_p, enums_p, index_p, Scan, unsound, found, scan_out, scan_p, scan_section}

-- ---- a function of a kind's number, by listing
abbrev pub Steady : {A : Type 0} → (ℕ → A) → A → ℕ → ℕ → Type 0
Steady f t lo zero = Unit {0}
Steady f t lo (suc n) = (f lo ≡ t) × Steady f t (suc lo) n

pub steady : {A : Type 0} (f : ℕ → A) (t : A) (lo n k : ℕ) → Steady f t lo n → lo ≤ k → k < lo + n → f k ≡ t
steady f t lo zero k h a b = absurd (omega arith)
steady f t lo (suc n) k h a b = elim (ℕ_discrete k lo) [ yes e ↦ ap f e ∙ h.0 | no ne ↦ steady f t (suc lo) n k h.1 (omega arith) (omega arith) ]

pub kind_past : (k : ℕ) → 20 ≤ k → kind k ≡ none
unfolding kind
kind_past k h = get_or-eq_default (none ∷ INT ∷ PTR ∷ ARRAY ∷ STRUCT ∷ UNION ∷ ENUM ∷ FWD ∷ TYPEDEF ∷ VOLATILE ∷ CONST ∷ RESTRICT ∷ FUNC ∷ FUNC-PROTO ∷ VAR ∷ DATASEC ∷ FLOAT ∷ DECL-TAG ∷ TYPE-TAG ∷ ENUM64 ∷ []) none {n = k} h

-- ---- named_entry
module _ (k : ℕ) where
  pub width_low : k < 4 → None ≡ entry_width (kind k)
  unfolding entry_width kind
  width_low h = sym (steady (λ (j : ℕ). entry_width (kind j)) None 0 4 k (refl, (refl, (refl, (refl, tt)))) zero-le h)

  pub width_composite : 4 ≤ k → k < 6 → Some 12 ≡ entry_width (kind k)
  unfolding entry_width kind
  width_composite a b = sym (steady (λ (j : ℕ). entry_width (kind j)) (Some 12) 4 2 k (refl, (refl, tt)) a b)

  pub width_eight : (k ≡ 6) ⊎ (k ≡ 13) → Some 8 ≡ entry_width (kind k)
  unfolding entry_width kind
  width_eight (inl e) = rw e
  width_eight (inr e) = rw e

  pub width_last : k ≡ 19 → Some 12 ≡ entry_width (kind k)
  unfolding entry_width kind
  width_last e = rw e

  pub width_high : 6 ≤ k → ((k ≡ 6) ⊎ (k ≡ 13) → ⊥) → (k ≡ 19 → ⊥) → None ≡ entry_width (kind k)
  unfolding entry_width kind
  width_high h m n =
      ⊎_elim
      (λ l. sym (steady (λ (j : ℕ). entry_width (kind j)) None 7 6 k (refl, (refl, (refl, (refl, (refl, (refl, tt)))))) above (below l)))
      (λ l. ⊎_elim
      (λ a. sym (steady (λ (j : ℕ). entry_width (kind j)) None 14 5 k (refl, (refl, (refl, (refl, (refl, tt))))) l (less a)))
      (λ a. rw (kind_past k a))
      (cases_lt k 20))
      (cases_lt k 14)
    where
      not6 : k ≡ 6 → ⊥
      not6 e = m (inl e)

      not13 : k ≡ 13 → ⊥
      not13 e = m (inr e)

      above : 7 ≤ k
      above = omega (arith, not6)

      below : k < 14 → k < 13
      below l = omega (arith, not13)

      less : k < 20 → k < 19
      less a = omega (arith, n)

-- ---- are_names_inside
pub names_range : (sl width : ℕ) (w : ℕ → ℕ) (first k n : ℕ)
    → list_all (λ (i : ℕ). ltb (w (first + i * width)) sl) (range_with_len k n) ≡ all_named_p sl width w (first + k * width) n
names_range sl width w first k zero = refl
names_range sl width w first k (suc n) =
    let z : k + 1 ≡ suc k = omega arith in
    let y : first + suc k * width ≡ first + k * width + width = omega arith in
    ap (λ (t : Bool). ltb (w (first + k * width)) sl && t)
    (ap (λ (i : ℕ). list_all (λ (j : ℕ). ltb (w (first + j * width)) sl) (range_with_len i n)) z
    ∙ names_range sl width w first (suc k) n
    ∙ ap (λ (q : ℕ). all_named_p sl width w q n) y)

-- ---- are_record_names_inside
none_named : (sl : ℕ) (k : Kind) (v : ℕ) (w : ℕ → ℕ) (q : ℕ) → entry_width k ≡ None → entries_named_p sl k v w q ≡ true
unfolding entry_width
none_named sl none v w q e = refl
none_named sl INT v w q e = refl
none_named sl PTR v w q e = refl
none_named sl ARRAY v w q e = refl
none_named sl STRUCT v w q e = absurd (cc)
none_named sl UNION v w q e = absurd (cc)
none_named sl ENUM v w q e = absurd (cc)
none_named sl FWD v w q e = refl
none_named sl TYPEDEF v w q e = refl
none_named sl VOLATILE v w q e = refl
none_named sl CONST v w q e = refl
none_named sl RESTRICT v w q e = refl
none_named sl FUNC v w q e = refl
none_named sl FUNC-PROTO v w q e = absurd (cc)
none_named sl VAR v w q e = refl
none_named sl DATASEC v w q e = refl
none_named sl FLOAT v w q e = refl
none_named sl DECL-TAG v w q e = refl
none_named sl TYPE-TAG v w q e = refl
none_named sl ENUM64 v w q e = absurd (cc)

each_named : (sl : ℕ) (k : Kind) (v : ℕ) (w : ℕ → ℕ) (q n : ℕ) → entry_width k ≡ Some n → all_named_p sl n w q v ≡ entries_named_p sl k v w q
unfolding entry_width
each_named sl none v w q n e = absurd (cc)
each_named sl INT v w q n e = absurd (cc)
each_named sl PTR v w q n e = absurd (cc)
each_named sl ARRAY v w q n e = absurd (cc)
each_named sl STRUCT v w q n e = let d : n ≡ 12 = cc in ap (λ (j : ℕ). all_named_p sl j w q v) d
each_named sl UNION v w q n e = let d : n ≡ 12 = cc in ap (λ (j : ℕ). all_named_p sl j w q v) d
each_named sl ENUM v w q n e = let d : n ≡ 8 = cc in ap (λ (j : ℕ). all_named_p sl j w q v) d
each_named sl FWD v w q n e = absurd (cc)
each_named sl TYPEDEF v w q n e = absurd (cc)
each_named sl VOLATILE v w q n e = absurd (cc)
each_named sl CONST v w q n e = absurd (cc)
each_named sl RESTRICT v w q n e = absurd (cc)
each_named sl FUNC v w q n e = absurd (cc)
each_named sl FUNC-PROTO v w q n e = let d : n ≡ 8 = cc in ap (λ (j : ℕ). all_named_p sl j w q v) d
each_named sl VAR v w q n e = absurd (cc)
each_named sl DATASEC v w q n e = absurd (cc)
each_named sl FLOAT v w q n e = absurd (cc)
each_named sl DECL-TAG v w q n e = absurd (cc)
each_named sl TYPE-TAG v w q n e = absurd (cc)
each_named sl ENUM64 v w q n e = let d : n ≡ 12 = cc in ap (λ (j : ℕ). all_named_p sl j w q v) d

module _ (sl : ℕ) (w : ℕ → ℕ) (info p v : ℕ) (f : v ≡ w p) where
  pub record_no : sl ≤ v → false ≡ named_by sl w info p
  unfolding named_by
  record_no l = rw (le-ltb (w p) sl (omega arith))

  module _ (l : v < sl) (k : ℕ) (g : k ≡ kind_of info) (o : Option ℕ) (h : o ≡ entry_width (kind k)) where
    width_is : entry_width (kind (kind_of info)) ≡ o
    width_is = sym (h ∙ ap (λ (j : ℕ). entry_width (kind j)) g)

    pub record_none : o ≡ None → true ≡ named_by sl w info p
    unfolding named_by
    record_none e = rw (lt-ltb (w p) sl (omega arith)) (sym (none_named sl (kind (kind_of info)) (vlen_of info) w (p + 12) (width_is ∙ e)))

    pub record_each : (n : ℕ) → o ≡ Some n → (m : ℕ) → m ≡ vlen_of info → (r : Bool) → r ≡ all_named_p sl n w (p + 12) m → r ≡ named_by sl w info p
    unfolding named_by
    record_each n z m d r e =
        rw (lt-ltb (w p) sl (omega arith))
        (e
        ∙ ap (λ (j : ℕ). all_named_p sl n w (p + 12) j) d
        ∙ each_named sl (kind (kind_of info)) (vlen_of info) w (p + 12) n (width_is ∙ z))

-- ---- enumerators_of
module _ (info k : ℕ) (e : k ≡ kind_of info) where
  pub enums_some : (k ≡ 6) ⊎ (k ≡ 19) → (n : ℕ) → n ≡ vlen_of info → n ≡ enums_of info
  unfolding enums_of
  enums_some (inl f) n g = rw (enums_of, ← e, f) g
  enums_some (inr f) n g = rw (enums_of, ← e, f) g

  pub enums_none : ((k ≡ 6) ⊎ (k ≡ 19) → ⊥) → 0 ≡ enums_of info
  unfolding enums_of
  enums_none m = rw (enums_of, ← e, ne_eqb k 6 (λ f. m (inl f)), ne_eqb k 19 (λ f. m (inr f)))

-- ---- next_record
abbrev tests_by : ℕ → ℕ → ℕ → Bool
tests_by end p y =
    leb (p + 12) end
    && (known (shape (kind (y / 16777216 % 32)))
    && (eqb (y / 65536 % 256) 0 && (eqb (y / 536870912 % 4) 0 && leb (p + (12 + extra (kind (y / 16777216 % 32)) (y % 65536))) end)))

module _ (w : ℕ → ℕ) (sl end p : ℕ) where
  next_no : (sound_p w end p && named_p sl w p) ≡ false → None ≡ next_p w sl end p
  unfolding next_p
  next_no e = rw (e, next_p)

  pub next_past : end < p + 12 → None ≡ next_p w sl end p
  unfolding sound_p
  next_past h = next_no (no_left _ _ (no_left _ _ (lt-leb (p + 12) end h)))

  module _ (i : ℕ) (fi : i ≡ w (p + 4)) where
    tests_are : sound_p w end p ≡ tests_by end p i
    unfolding sound_p size_p kind_p vlen_p
    tests_are = ap (tests_by end p) (sym fi)

    pub next_used : (i / 65536 % 256 ≡ 0 → ⊥) → None ≡ next_p w sl end p
    next_used n = next_no (no_left _ _ (tests_are ∙ no_right (leb (p + 12) end) _ (no_right (known (shape (kind (i / 16777216 % 32)))) _ (no_left _ _ (ne_eqb (i / 65536 % 256) 0 n)))))

    pub next_used2 : (i / 536870912 % 4 ≡ 0 → ⊥) → None ≡ next_p w sl end p
    next_used2 n = next_no (no_left _ _ (tests_are ∙ no_right (leb (p + 12) end) _ (no_right (known (shape (kind (i / 16777216 % 32)))) _ (no_right (eqb (i / 65536 % 256) 0) _ (no_left _ _ (ne_eqb (i / 536870912 % 4) 0 n))))))

    pub next_unknown : known (shape (kind (kind_of i))) ≡ false → None ≡ next_p w sl end p
    next_unknown n = next_no (no_left _ _ (tests_are ∙ no_right (leb (p + 12) end) _ (no_left _ _ n)))

    module _ (n : ℕ) (ex : extra (kind (kind_of i)) (vlen_of i) ≡ n) where
      pub next_long : p ≤ end → (12 ≤ end - p) → end - p - 12 < n → None ≡ next_p w sl end p
      next_long a b l =
          next_no (no_left _ _ (tests_are
          ∙ no_right (leb (p + 12) end) _ (no_right (known (shape (kind (i / 16777216 % 32)))) _
          (no_right (eqb (i / 65536 % 256) 0) _ (no_right (eqb (i / 536870912 % 4) 0) _
          (lt-leb (p + (12 + extra (kind (i / 16777216 % 32)) (i % 65536))) end (omega (arith, ex))))))))

      module _ (r : Bool) (er : r ≡ named_by sl w i p) where
        named_is : named_p sl w p ≡ r
        unfolding named_p named_by kind_p vlen_p
        named_is = sym (er ∙ ap (λ (y : ℕ). ltb (w p) sl && entries_named_p sl (kind (y / 16777216 % 32)) (y % 65536) w (p + 12)) fi)

        pub next_unnamed : r ≡ false → None ≡ next_p w sl end p
        next_unnamed f = next_no (no_right (sound_p w end p) _ (named_is ∙ f))

        pub next_is : p ≤ end → (12 ≤ end - p) → i / 65536 % 256 ≡ 0 → i / 536870912 % 4 ≡ 0 → known (shape (kind (kind_of i))) ≡ true → n ≤ end - p - 12 → r ≡ true
            → Some (p + 12 + n) ≡ next_p w sl end p
        unfolding next_p size_p kind_p vlen_p
        next_is a b u v kn l f =
            let s : sound_p w end p ≡ true =
            tests_are
            ∙ rw (le-leb (p + 12) end (omega arith), kn, u, v, le-leb (p + (12 + extra (kind (i / 16777216 % 32)) (i % 65536))) end (omega (arith, ex))) in
            let z : extra (kind (w (p + 4) / 16777216 % 32)) (w (p + 4) % 65536) ≡ n = ap (λ (y : ℕ). extra (kind (y / 16777216 % 32)) (y % 65536)) (sym fi) ∙ ex in
            let q : p + 12 + n ≡ p + (12 + extra (kind (w (p + 4) / 16777216 % 32)) (w (p + 4) % 65536)) = omega arith in
            rw (s, named_is ∙ f, next_p) (ap (λ (y : ℕ). Some y) q)

-- ---- Area::scan
-- what holds before each record: the pass so far, and what is left of it
pub record Passing (w : ℕ → ℕ) (sl from end : ℕ) (start₀ : List ℕ) (at x e : ℕ) (start : List ℕ) : Type 0 where
  pub some : 1 ≤ x
  pub few : x ≤ 262145
  pub inside : at ≤ end
  pub small : e * 8 ≤ at
  pub passes : passes_p sl 262144 w end from ≡ passes_p sl (262145 - x) w end at
  pub counts : suc (count_p w 262144 end from) ≡ x + count_p w (262145 - x) end at
  pub enums : enums_p w 262144 end from ≡ e + enums_p w (262145 - x) end at
  pub place : at ≡ place_from w from (x - 1)
  pub index : start ≡ index_p w from start₀ (x - 1)

pub enums_small : (i : ℕ) → enums_of i * 8 ≤ extra (kind (kind_of i)) (vlen_of i)
unfolding enums_of kind
enums_small i = elim (ℕ_discrete (kind_of i) 6) [ yes e ↦ rw (e) (omega arith) | no a ↦ elim (ℕ_discrete (kind_of i) 19) [ yes e ↦ rw (e) (omega arith) | no b ↦ rw (ne_eqb (kind_of i) 6 a, ne_eqb (kind_of i) 19 b) zero-le ] ]

pub size_least : (w : ℕ → ℕ) (p : ℕ) → 12 ≤ size_p w p
unfolding size_p
size_least w p = omega arith

module _ (w : ℕ → ℕ) (sl end p : ℕ) where
  -- a next place past this one: the record is sound
  pub record Sound : Type 0 where
    pub is_sound_lem : sound_p w end p ≡ true
    pub is_named : named_p sl w p ≡ true
    pub ends : p + size_p w p ≤ end

  pub ends_in : sound_p w end p ≡ true → p + size_p w p ≤ end
  unfolding sound_p
  ends_in h =
      let h1 = second_so (leb (p + 12) end) _ h in
      let h2 = second_so (known (shape (kind (kind_p w p)))) _ h1 in
      let h3 = second_so (eqb (w (p + 4) / 65536 % 256) 0) _ h2 in
      let h4 = second_so (eqb (w (p + 4) / 536870912 % 4) 0) _ h3 in
      leb-true (p + size_p w p) end h4

  pub next_sound : (next : ℕ) → Some next ≡ next_p w sl end p → Sound × (next ≡ p + size_p w p)
  unfolding next_p
  next_sound next e = go (sound_p w end p && named_p sl w p) refl
    where
      go : (t : Bool) → (sound_p w end p && named_p sl w p) ≡ t → Sound × (next ≡ p + size_p w p)
      go true f =
          let s : sound_p w end p ≡ true = first_so (sound_p w end p) _ f in
          let q : Some next ≡ Some (p + size_p w p) = e ∙ rw (f, next_p) in
          (record { is_sound_lem = s; is_named = second_so (sound_p w end p) _ f; ends = ends_in s }, cc)
      go false f = let q : Some next ≡ None = e ∙ rw (f, next_p) in absurd cc

  pub next_refused : None ≡ next_p w sl end p → (sound_p w end p && named_p sl w p) ≡ false
  unfolding next_p
  next_refused e = go (sound_p w end p && named_p sl w p) refl
    where
      go : (t : Bool) → (sound_p w end p && named_p sl w p) ≡ t → t ≡ false
      go true f = let q : None ≡ Some (p + size_p w p) = e ∙ rw (f, next_p) in absurd cc
      go false f = refl

-- the steps of what is counted, in the area and past it
module _ (w : ℕ → ℕ) (sl end p n : ℕ) where
  pub passes_in : p < end → passes_p sl (suc n) w end p ≡ (sound_p w end p && (named_p sl w p && passes_p sl n w end (p + size_p w p)))
  unfolding passes_p
  passes_in h = rw (lt-ltb p end h, passes_p)

  pub count_in : p < end → count_p w (suc n) end p ≡ suc (count_p w n end (p + size_p w p))
  unfolding count_p
  count_in h = rw (lt-ltb p end h, count_p)

  pub enums_in : p < end → enums_p w (suc n) end p ≡ enums_of (w (p + 4)) + enums_p w n end (p + size_p w p)
  unfolding enums_p
  enums_in h = rw (lt-ltb p end h, enums_p)

  passes_sound : p < end → Sound w sl end p → passes_p sl (suc n) w end p ≡ passes_p sl n w end (p + size_p w p)
  passes_sound h s = passes_in h ∙ rw (s.is_sound_lem, s.is_named)

  passes_bad : p < end → (sound_p w end p && named_p sl w p) ≡ false → passes_p sl (suc n) w end p ≡ false
  passes_bad h s = passes_in h ∙ go (sound_p w end p) (named_p sl w p) s
    where
      go : (a b : Bool) → (a && b) ≡ false → (a && (b && passes_p sl n w end (p + size_p w p))) ≡ false
      go true true f = absurd (true≢false f)
      go true false f = refl
      go false b f = refl

passes_none : (w : ℕ → ℕ) (sl end p : ℕ) → p < end → passes_p sl 0 w end p ≡ false
unfolding passes_p
passes_none w sl end p l = lt-leb end p l

module _ (w : ℕ → ℕ) (sl end p : ℕ) (h : end ≤ p) where
  pub passes_end : (n : ℕ) → passes_p sl n w end p ≡ true
  unfolding passes_p
  passes_end zero = le-leb end p h
  passes_end (suc n) = rw (le-ltb p end h, passes_p)

  pub count_end : (n : ℕ) → count_p w n end p ≡ 0
  unfolding count_p
  count_end zero = refl
  count_end (suc n) = rw (le-ltb p end h, count_p)

  pub enums_end : (n : ℕ) → enums_p w n end p ≡ 0
  unfolding enums_p
  enums_end zero = refl
  enums_end (suc n) = rw (le-ltb p end h, enums_p)

module _ (w : ℕ → ℕ) (sl from end : ℕ) (start₀ : List ℕ) where
  pub passing_none : from ≤ end → Passing w sl from end start₀ from 1 0 start₀
  unfolding place_from index_p
  passing_none h = record { some = omega arith; few = omega arith; inside = h; small = zero-le; passes = refl; counts = omega arith; enums = omega arith; place = refl; index = refl }

  module _ (at x e : ℕ) (start : List ℕ) (g : Passing w sl from end start₀ at x e start) where
    module _ (l : at < end) where
      pub scan_many : 262144 < x → unsound ≡ scan_p w sl from end start₀
      unfolding scan_p
      scan_many m =
          let z : 262145 - x ≡ 0 = omega (arith, g.few) in
          let b : passes_p sl 262144 w end from ≡ false = g.passes ∙ ap (λ (n : ℕ). passes_p sl n w end at) z ∙ passes_none w sl end at l in
          rw (b, scan_p)

      module _ (m : x ≤ 262144) where
        fuel : 262145 - x ≡ suc (262145 - (x + 1))
        fuel = omega arith

        pub scan_bad : None ≡ next_p w sl end at → unsound ≡ scan_p w sl from end start₀
        unfolding scan_p
        scan_bad h =
            let b : passes_p sl 262144 w end from ≡ false =
            g.passes
            ∙ ap (λ (n : ℕ). passes_p sl n w end at) fuel
            ∙ passes_bad w sl end at (262145 - (x + 1)) l (next_refused w sl end at h) in
            rw (b, scan_p)

        module _ (next : ℕ) (ne : Some next ≡ next_p w sl end at) (end_few : end ≤ 16777216) (i k : ℕ) (fi : i ≡ w (at + 4)) (fk : k ≡ kind_of i) (start' : List ℕ)
            (fs : start' ≡ set start x (at % 134217728 * 32 + k % 32)) (d : ℕ) (fd : d ≡ enums_of i) where
          snd : Sound w sl end at
          snd = (next_sound w sl end at next ne).0

          next_at : next ≡ at + size_p w at
          next_at = (next_sound w sl end at next ne).1

          entry_is : at % 134217728 * 32 + k % 32 ≡ at * 32 + kind_p w at
          unfolding kind_p
          entry_is =
              let e1 : at % 134217728 ≡ at = omega (arith, g.inside) in
              let e2 : k % 32 ≡ w (at + 4) / 16777216 % 32 = ap (λ (y : ℕ). y % 32) (fk ∙ ap (λ (y : ℕ). y / 16777216 % 32) fi) ∙ twice (w (at + 4) / 16777216) in
              λ j. e1 j * 32 + e2 j
            where
              twice : (y : ℕ) → y % 32 % 32 ≡ y % 32
              twice y = omega arith

          size_of : d * 8 + 12 ≤ size_p w at
          unfolding size_p kind_p vlen_p
          size_of =
              let q : enums_of (w (at + 4)) * 8 ≤ extra (kind (kind_of (w (at + 4)))) (vlen_of (w (at + 4))) = enums_small (w (at + 4)) in
              let r : d ≡ enums_of (w (at + 4)) = fd ∙ ap enums_of fi in
              omega arith

          place_next : next ≡ place_from w from (x + 1 - 1)
          unfolding place_from
          place_next =
              let z : x + 1 - 1 ≡ suc (x - 1) = omega (arith, g.some) in
              next_at ∙ ap (λ (y : ℕ). y + size_p w y) g.place ∙ ap (place_from w from) (sym z)

          index_next : start' ≡ index_p w from start₀ (x + 1 - 1)
          unfolding index_p
          index_next =
              let z : x + 1 - 1 ≡ suc (x - 1) = omega (arith, g.some) in
              let y : x ≡ suc (x - 1) = omega (arith, g.some) in
              fs
              ∙ (λ j. set (g.index j) (y j) (entry_is j))
              ∙ ap (λ (q : ℕ). set (index_p w from start₀ (x - 1)) (suc (x - 1)) (q * 32 + kind_p w q)) g.place
              ∙ ap (index_p w from start₀) (sym z)

          pub passing_more : Passing w sl from end start₀ next (x + 1) (e + d) start'
          passing_more =
              let n = 262145 - (x + 1) in
              let c1 : passes_p sl (suc n) w end at ≡ passes_p sl n w end next = passes_sound w sl end at n l snd ∙ ap (passes_p sl n w end) (sym next_at) in
              let c2 : count_p w (suc n) end at ≡ suc (count_p w n end next) = count_in w sl end at n l ∙ ap (λ (q : ℕ). suc (count_p w n end q)) (sym next_at) in
              let c3 : enums_p w (suc n) end at ≡ d + enums_p w n end next =
              enums_in w sl end at n l ∙ (λ j. sym (fd ∙ ap enums_of fi) j + enums_p w n end (sym next_at j)) in
              let d2 : count_p w (262145 - x) end at ≡ suc (count_p w n end next) = ap (λ (q : ℕ). count_p w q end at) fuel ∙ c2 in
              let d3 : enums_p w (262145 - x) end at ≡ d + enums_p w n end next = ap (λ (q : ℕ). enums_p w q end at) fuel ∙ c3 in
              record {
                some = omega arith;
                few = omega arith;
                inside = omega (arith, snd.ends, next_at);
                small = omega (arith, g.small, size_of, next_at);
                passes = g.passes ∙ ap (λ (q : ℕ). passes_p sl q w end at) fuel ∙ c1;
                counts = omega (arith, g.counts, d2);
                enums = omega (arith, g.enums, d3);
                place = place_next;
                index = index_next;
              }

    pub scan_end : end ≤ at → found x e start ≡ scan_p w sl from end start₀
    unfolding scan_p
    scan_end h =
        let b : passes_p sl 262144 w end from ≡ true = g.passes ∙ passes_end w sl end at h (262145 - x) in
        let n : suc (count_p w 262144 end from) ≡ x = omega (arith, g.counts, count_end w sl end at h (262145 - x)) in
        let m : enums_p w 262144 end from ≡ e = omega (arith, g.enums, enums_end w sl end at h (262145 - x)) in
        let k : x - 1 ≡ count_p w 262144 end from = omega arith in
        let i : start ≡ index_p w from start₀ (count_p w 262144 end from) = g.index ∙ ap (index_p w from start₀) k in
        rw (b, scan_p) (λ j. found (sym n j) (sym m j) (i j))

-- what is known at the turn of record x: that the pass has come there, and past the last turn that there are too many
pub record Turning (w : ℕ → ℕ) (sl from end : ℕ) (start₀ : List ℕ) (at x e : ℕ) (start : List ℕ) : Type 0 where
  pub come : x ≤ 262145 → Passing w sl from end start₀ at x e start
  pub many : 262145 < x → unsound ≡ scan_p w sl from end start₀

module _ (w : ℕ → ℕ) (sl from end : ℕ) (start₀ : List ℕ) where
  pub turning_none : from ≤ end → Turning w sl from end start₀ from 1 0 start₀
  turning_none h = record { come = λ _. passing_none w sl from end start₀ h; many = λ f. absurd (omega arith) }

  module _ (at x e : ℕ) (start : List ℕ) (t : Turning w sl from end start₀ at x e start) (m : x ≤ 262145) where
    pub turn_end : end ≤ at → found x e start ≡ scan_p w sl from end start₀
    turn_end h = scan_end w sl from end start₀ at x e start (t.come m) h

    module _ (l : at < end) where
      pub turn_bad : None ≡ next_p w sl end at → unsound ≡ scan_p w sl from end start₀
      turn_bad h = elim (ℕ_discrete x 262145) [
        | yes f ↦ scan_many w sl from end start₀ at x e start (t.come m) l (omega arith)
        | no f ↦ scan_bad w sl from end start₀ at x e start (t.come m) l (omega arith) h
      ]

      pub turning_more : (next : ℕ) → Some next ≡ next_p w sl end at → end ≤ 16777216 → (i k : ℕ) → i ≡ w (at + 4) → k ≡ kind_of i → (start' : List ℕ)
          → start' ≡ set start x (at % 134217728 * 32 + k % 32) → (d : ℕ) → d ≡ enums_of i → Turning w sl from end start₀ next (x + 1) (e + d) start'
      turning_more next ne few i k fi fk start' fs d fd = record {
        come = λ h. passing_more w sl from end start₀ at x e start (t.come m) l (omega arith) next ne few i k fi fk start' fs d fd;
        many = λ h. scan_many w sl from end start₀ at x e start (t.come m) l (omega arith);
      }

-- ---- extra_of, against `spec_linux_btf`
abbrev to_extra : Shape → ℕ → Option ℕ
to_extra bad v = None
to_extra (fixed n) v = Some n
to_extra (each n) v = Some (n * (v % 65536))

abbrev All : (ℕ → Type 0) → ℕ → ℕ → Type 0
All P lo zero = Unit {0}
All P lo (suc n) = P lo × All P (suc lo) n

all_at : (P : ℕ → Type 0) (lo n k : ℕ) → All P lo n → lo ≤ k → k < lo + n → P k
all_at P lo zero k h a b = absurd (omega arith)
all_at P lo (suc n) k h a b = elim (ℕ_discrete k lo) [ yes e ↦ rw e h.0 | no ne ↦ all_at P (suc lo) n k h.1 (omega arith) (omega arith) ]

shapes_agree : (v k : ℕ) → k < 32 → extra_of k v ≡ to_extra (shape (kind k)) v
unfolding extra_of kind
shapes_agree v k h = all_at (λ j. extra_of j v ≡ to_extra (shape (kind j)) v) 0 32 k (refl, (refl, (refl, (refl, (refl, (refl, (refl, (refl, (refl, (refl, (refl, (refl, (refl, (refl, (refl, (refl, (refl, (refl, (refl, (refl, (refl, (refl, (refl, (refl, (refl, (refl, (refl, (refl, (refl, (refl, (refl, (refl, tt)))))))))))))))))))))))))))))))) zero-le h

module _ (info v : ℕ) (ev : v ≡ vlen_of info) (r : Option ℕ) (er : r ≡ extra_of (kind_of info) v) where
  agree : r ≡ to_extra (shape (kind (kind_of info))) (vlen_of info)
  agree = er ∙ ap (extra_of (kind_of info)) ev ∙ shapes_agree (vlen_of info) (kind_of info) (omega arith)

  pub extra_known : (n : ℕ) → r ≡ Some n → known (shape (kind (kind_of info))) ≡ true
  extra_known n e = go (shape (kind (kind_of info))) (sym agree ∙ e)
    where
      go : (q : Shape) → to_extra q (vlen_of info) ≡ Some n → known q ≡ true
      go bad f = absurd cc
      go (fixed m) f = refl
      go (each m) f = refl

  pub extra_long : (n : ℕ) → r ≡ Some n → extra (kind (kind_of info)) (vlen_of info) ≡ n
  extra_long n e = go (shape (kind (kind_of info))) (sym agree ∙ e)
    where
      go : (q : Shape) → to_extra q (vlen_of info) ≡ Some n → length_of q (vlen_of info) ≡ n
      go bad f = absurd cc
      go (fixed m) f = cc
      go (each m) f =
          let g : m * (vlen_of info % 65536) ≡ n = cc in
          let same : vlen_of info ≡ vlen_of info % 65536 = omega arith in
          mul_comm (vlen_of info) m ∙ ap (λ (y : ℕ). m * y) same ∙ g

  pub extra_unknown : r ≡ None → known (shape (kind (kind_of info))) ≡ false
  extra_unknown e = go (shape (kind (kind_of info))) (sym agree ∙ e)
    where
      go : (q : Shape) → to_extra q (vlen_of info) ≡ None → known q ≡ false
      go bad f = refl
      go (fixed m) f = absurd cc
      go (each m) f = absurd cc

-- ---- the answers
pub enums_few : (i d : ℕ) → d ≡ enums_of i → d < 65536
unfolding enums_of
enums_few i d e = rw e (go (eqb (kind_of i) 6) (eqb (kind_of i) 19))
  where
    go : (t u : Bool) → pick t (vlen_of i) (pick u (vlen_of i) 0) < 65536
    go true u = omega arith
    go false true = omega arith
    go false false = omega arith

pub out_unsound : (start : List ℕ) → scan_out None start ≡ unsound
unfolding scan_out
out_unsound start = refl

pub out_found : (x e : ℕ) (start : List ℕ) → scan_out (Some (record { types = x; enumerators = e })) start ≡ found x e start
unfolding scan_out
out_found x e start = refl

module _ (b : TypeTable) (s start : List ℕ) (h : Header) (e : h ≡ header_of s) where
  at4 : h.hdr_len ≡ word_of s 4
  unfolding header_of
  at4 = ap (λ x. x.hdr_len) e

  at8 : h.type_off ≡ word_of s 8
  unfolding header_of
  at8 = ap (λ x. x.type_off) e

  at12 : h.type_len ≡ word_of s 12
  unfolding header_of
  at12 = ap (λ x. x.type_len) e

  at20 : h.str_len ≡ word_of s 20
  unfolding header_of
  at20 = ap (λ x. x.str_len) e

  pub section_past : 16777216 < h.hdr_len + h.type_off + h.type_len → unsound ≡ scan_section b s start
  unfolding scan_section
  section_past l = rw (lt-ltb 16777216 (word_of s 4 + word_of s 8 + word_of s 12) (omega (arith, at4, at8, at12)), scan_section)

  pub section_pass : h.hdr_len + h.type_off + h.type_len ≤ 16777216 → (q : Scan)
      → q ≡ scan_p (section_word b s) h.str_len (h.hdr_len + h.type_off) (h.hdr_len + h.type_off + h.type_len) start → q ≡ scan_section b s start
  unfolding scan_section
  section_pass l q f =
      rw (le-ltb 16777216 (word_of s 4 + word_of s 8 + word_of s 12) (omega (arith, at4, at8, at12)), scan_section)
      (f ∙ (λ i. scan_p (section_word b s) (at20 i) (at4 i + at8 i) (at4 i + at8 i + at12 i) start))

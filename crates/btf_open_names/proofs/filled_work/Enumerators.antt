-- The enumerators read back from the work: the first of each enum in word 12, and the place of each value. Assumes nothing.
use Prim.Native.Nat.{ℕ, zero, suc, ◌+◌, ◌-◌, ◌*◌, ◌/◌, ◌%◌, ◌<◌, ◌≤◌}
use mathlib.Core.Path.{◌≡◌, refl, ap, ◌∙◌, sym}
use mathlib.Core.Bool.{Bool, true, false}
use mathlib.Core.List.{List}
use mathlib.Core.Logic.{⊎_elim, ◌≢◌}
use native.Mathlib.Omega.{arith}
use native.Mathlib.Decide.{ℕ_discrete}
use lib.ListN.{length, get_or}
use lib.Dec.{ltb, eqb}
use borrow.Author.Tests.{ltb-true}
use Rattle.std.proofs.lemmas.Bool.{cases_lt}
use Rattle.spec_bytes.specs.words.Words.{get_word}
use Rattle.spec_bytes.proofs.words.Laws.{get_put_same, get_put_other, put_length}
use Rattle.spec_type_table.specs.declared.types.TypeTable.{TypeTable}
use Rattle.spec_type_table.specs.Cells.{get_field, put_field, place_of}
use Rattle.spec_type_table.specs.Records.{section_word, vlen_of}
use Rattle.spec_type_table.proofs.Laws.{place_type, place_enum}
use Rattle.btf_open_names.specs.name_classes.Classes.{table_classed}
use Rattle.btf_open_names.proofs.name_classes.Ledger.{the_words}
use Rattle.btf_open_names.specs.filled_work.Left.{value_place, enumerator_word, values_put, is_enum, enum_with, values_at, tag_put, enums_to, enums_put, tags_put}

-- ---- the values of one enum
module _ (types kind at first : ℕ) (w : List ℕ) where
  pub values_long : (n : ℕ) → length (values_put types kind at first w n) ≡ length w
  unfolding values_put
  values_long zero = refl
  values_long (suc n) = put_length (values_put types kind at first w n) (enumerator_word types (first + n)) (value_place kind at n) ∙ values_long n

  values_before : (n i : ℕ) → i < enumerator_word types first → get_word (values_put types kind at first w n) i ≡ get_word w i
  unfolding values_put enumerator_word
  values_before zero i l = refl
  values_before (suc n) i l =
      get_put_other (values_put types kind at first w n) (types * 16 + (first + n) * 8) i (value_place kind at n) (λ e. absurd (omega arith)) ∙ values_before n i l

  values_at_lem : (n k : ℕ) → k < n → enumerator_word types (first + n) ≤ length w / 4 → get_word (values_put types kind at first w n) (enumerator_word types (first + k)) ≡ value_place kind at k
  unfolding values_put enumerator_word
  values_at_lem zero k a l = absurd (omega arith)
  values_at_lem (suc n) k a l =
      elim (ℕ_discrete k n) [
        | yes e ↦ ap (λ (q : ℕ). get_word (values_put types kind at first w (suc n)) (types * 16 + (first + q) * 8)) e
            ∙ get_put_same (values_put types kind at first w n) (types * 16 + (first + n) * 8) (value_place kind at n) (omega (arith, values_long n))
            ∙ ap (value_place kind at) (sym e)
        | no ne ↦ get_put_other (values_put types kind at first w n) (types * 16 + (first + n) * 8) (types * 16 + (first + k) * 8) (value_place kind at n) (λ e. ne (omega arith))
            ∙ values_at_lem n k (omega arith) (omega arith)
      ]

-- ---- one type
module _ (types entry n x first : ℕ) (w : List ℕ) where
  abbrev marked : List ℕ
  marked = put_field w x 12 (first % 4294967296)

  enum_yes : is_enum (entry % 32) ≡ true → enum_with types entry n x first w ≡ values_put types (entry % 32) (entry / 32) first marked n
  unfolding enum_with
  enum_yes e = rw (e, enum_with)

  enum_no : is_enum (entry % 32) ≡ false → enum_with types entry n x first w ≡ w
  unfolding enum_with
  enum_no e = rw (e, enum_with)

  marked_long : length marked ≡ length w
  marked_long = put_length w (x * 16 + 12) (first % 4294967296)

  pub enum_long : length (enum_with types entry n x first w) ≡ length w
  enum_long = go (is_enum (entry % 32)) refl
    where
      go : (t : Bool) → is_enum (entry % 32) ≡ t → length (enum_with types entry n x first w) ≡ length w
      go true e = ap length (enum_yes e) ∙ values_long types (entry % 32) (entry / 32) first marked n ∙ marked_long
      go false e = ap length (enum_no e)

  low_word : (id : ℕ) → id < types → id * 16 + 12 < enumerator_word types first
  unfolding enumerator_word
  low_word id l = omega arith

  enum_first : is_enum (entry % 32) ≡ true → x < types → types * 16 ≤ length w / 4 → get_field (enum_with types entry n x first w) x 12 ≡ first % 4294967296
  enum_first e l r =
      ap (λ (q : List ℕ). get_field q x 12) (enum_yes e)
      ∙ values_before types (entry % 32) (entry / 32) first marked n (x * 16 + 12) (low_word x l)
      ∙ get_put_same w (x * 16 + 12) (first % 4294967296) (omega arith)

  enum_first_other : (id : ℕ) → (id ≡ x → ⊥) → id < types → get_field (enum_with types entry n x first w) id 12 ≡ get_field w id 12
  enum_first_other id ne l = go (is_enum (entry % 32)) refl
    where
      go : (t : Bool) → is_enum (entry % 32) ≡ t → get_field (enum_with types entry n x first w) id 12 ≡ get_field w id 12
      go true e =
          ap (λ (q : List ℕ). get_field q id 12) (enum_yes e)
          ∙ values_before types (entry % 32) (entry / 32) first marked n (id * 16 + 12) (low_word id l)
          ∙ get_put_other w (x * 16 + 12) (id * 16 + 12) (first % 4294967296) (λ q. ne (omega arith))
      go false e = ap (λ (q : List ℕ). get_field q id 12) (enum_no e)

  enum_value : is_enum (entry % 32) ≡ true → (k : ℕ) → k < n → enumerator_word types (first + n) ≤ length w / 4
      → get_word (enum_with types entry n x first w) (enumerator_word types (first + k)) ≡ value_place (entry % 32) (entry / 32) k
  enum_value e k a r =
      ap (λ (q : List ℕ). get_word q (enumerator_word types (first + k))) (enum_yes e)
      ∙ values_at_lem types (entry % 32) (entry / 32) first marked n k a (omega (arith, marked_long))

  older_word : (e : ℕ) → e < first → enumerator_word types e < enumerator_word types first
  unfolding enumerator_word
  older_word e l = omega arith

  past_marks : (e : ℕ) → x < types → enumerator_word types e ≢ x * 16 + 12
  unfolding enumerator_word
  past_marks e l q = omega arith

  enum_older : (e : ℕ) → e < first → x < types → get_word (enum_with types entry n x first w) (enumerator_word types e) ≡ get_word w (enumerator_word types e)
  enum_older e a l = go (is_enum (entry % 32)) refl
    where
      go : (t : Bool) → is_enum (entry % 32) ≡ t → get_word (enum_with types entry n x first w) (enumerator_word types e) ≡ get_word w (enumerator_word types e)
      go true q =
          ap (λ (z : List ℕ). get_word z (enumerator_word types e)) (enum_yes q)
          ∙ values_before types (entry % 32) (entry / 32) first marked n (enumerator_word types e) (older_word e a)
          ∙ get_put_other w (x * 16 + 12) (enumerator_word types e) (first % 4294967296) (past_marks e l)
      go false q = ap (λ (z : List ℕ). get_word z (enumerator_word types e)) (enum_no q)

word_up : (types a c : ℕ) → a ≤ c → enumerator_word types a ≤ enumerator_word types c
unfolding enumerator_word
word_up types a c l = omega arith

-- ---- all of them
module _ (b : TypeTable) (s start : List ℕ) where
  some_enum : (entry k : ℕ) → k < values_at b s entry → is_enum (entry % 32) ≡ true
  unfolding values_at
  some_enum entry k l = go (is_enum (entry % 32)) refl l
    where
      go : (t : Bool) → is_enum (entry % 32) ≡ t → k < (elim t as (λ z. ℕ) [ true ↦ vlen_of (section_word b s (entry / 32 + 4)) | false ↦ 0 ]) → t ≡ true
      go true e h = refl
      go false e h = absurd (omega arith)

  to_next : (n : ℕ) → enums_to b s start (suc n) ≡ enums_to b s start n + values_at b s (get_or start (suc n) 0)
  unfolding enums_to
  to_next n = refl

  put_next : (w : List ℕ) (n : ℕ) → enums_put b s start w (suc n)
      ≡ enum_with b.types (get_or start (suc n) 0) (values_at b s (get_or start (suc n) 0)) (suc n) (enums_to b s start n) (enums_put b s start w n)
  unfolding enums_put
  put_next w n = refl

  pub to_up : (m n : ℕ) → m ≤ n → enums_to b s start m ≤ enums_to b s start n
  to_up m zero l = let z : m ≡ 0 = omega arith in rw z (omega arith)
  to_up m (suc n) l =
      elim (ℕ_discrete m (suc n)) [ yes e ↦ rw e (omega arith) | no ne ↦ omega (arith, to_up m n (omega arith), to_next n) ]

  pub enums_long : (w : List ℕ) (n : ℕ) → length (enums_put b s start w n) ≡ length w
  unfolding enums_put
  enums_long w zero = refl
  enums_long w (suc n) =
      enum_long b.types (get_or start (suc n) 0) (values_at b s (get_or start (suc n) 0)) (suc n) (enums_to b s start n) (enums_put b s start w n) ∙ enums_long w n

  module _ (w : List ℕ) (room : b.types * 16 ≤ length w / 4) where
    pub first_at : (n x : ℕ) → 1 ≤ x → x ≤ n → n < b.types → is_enum (get_or start x 0 % 32) ≡ true → get_field (enums_put b s start w n) x 12 ≡ enums_to b s start (x - 1) % 4294967296
    first_at zero x a c l e = absurd (omega arith)
    first_at (suc n) x a c l e =
        elim (ℕ_discrete x (suc n)) [
          | yes q ↦
              let y : x - 1 ≡ n = omega arith in
              let wide : b.types * 16 ≤ length (enums_put b s start w n) / 4 = omega (arith, enums_long w n) in
              (λ i. get_field (put_next w n i) (q i) 12)
              ∙ enum_first b.types (get_or start (suc n) 0) (values_at b s (get_or start (suc n) 0)) (suc n) (enums_to b s start n) (enums_put b s start w n)
              (ap (λ (z : ℕ). is_enum (get_or start z 0 % 32)) (sym q) ∙ e) l wide
              ∙ ap (λ (z : ℕ). enums_to b s start z % 4294967296) (sym y)
          | no q ↦ ap (λ (z : List ℕ). get_field z x 12) (put_next w n)
              ∙ enum_first_other b.types (get_or start (suc n) 0) (values_at b s (get_or start (suc n) 0)) (suc n) (enums_to b s start n) (enums_put b s start w n) x q (omega arith)
              ∙ first_at n x a (omega arith) (omega arith) e
        ]

    -- of a type that is no enum, word 12 stays
    pub first_not : (n x : ℕ) → x < b.types → n < b.types → is_enum (get_or start x 0 % 32) ≡ false → get_field (enums_put b s start w n) x 12 ≡ get_field w x 12
    unfolding enums_put
    first_not zero x a l e = refl
    first_not (suc n) x a l e =
        elim (ℕ_discrete x (suc n)) [
          | yes q ↦ ap (λ (z : List ℕ). get_field z x 12) (enum_no b.types (get_or start (suc n) 0) (values_at b s (get_or start (suc n) 0)) (suc n) (enums_to b s start n) (enums_put b s start w n) (ap (λ (z : ℕ). is_enum (get_or start z 0 % 32)) (sym q) ∙ e))
              ∙ first_not n x a (omega arith) e
          | no q ↦ enum_first_other b.types (get_or start (suc n) 0) (values_at b s (get_or start (suc n) 0)) (suc n) (enums_to b s start n) (enums_put b s start w n) x q a
              ∙ first_not n x a (omega arith) e
        ]

    pub value_at : (n x k : ℕ) → 1 ≤ x → x ≤ n → n < b.types → k < values_at b s (get_or start x 0) → enumerator_word b.types (enums_to b s start n) ≤ length w / 4
        → get_word (enums_put b s start w n) (enumerator_word b.types (enums_to b s start (x - 1) + k)) ≡ value_place (get_or start x 0 % 32) (get_or start x 0 / 32) k
    value_at zero x k a c l h r = absurd (omega arith)
    value_at (suc n) x k a c l h r =
        elim (ℕ_discrete x (suc n)) [
          | yes q ↦
              let y : x - 1 ≡ n = omega arith in
              let h' : k < values_at b s (get_or start (suc n) 0) = rw (← q) h in
              let wide : enumerator_word b.types (enums_to b s start n + values_at b s (get_or start (suc n) 0)) ≤ length (enums_put b s start w n) / 4 =
              rw (enums_long w n, ← to_next n) r in
              (λ i. get_word (put_next w n i) (enumerator_word b.types (enums_to b s start (y i) + k)))
              ∙ enum_value b.types (get_or start (suc n) 0) (values_at b s (get_or start (suc n) 0)) (suc n) (enums_to b s start n) (enums_put b s start w n)
              (some_enum (get_or start (suc n) 0) k h') k h' wide
              ∙ ap (λ (z : ℕ). value_place (get_or start z 0 % 32) (get_or start z 0 / 32) k) (sym q)
          | no q ↦
              let y : x ≡ suc (x - 1) = omega arith in
              let up : enums_to b s start (suc (x - 1)) ≤ enums_to b s start n = to_up (suc (x - 1)) n (omega arith) in
              let h' : k < values_at b s (get_or start (suc (x - 1)) 0) = rw (← y) h in
              let less : enums_to b s start (x - 1) + k < enums_to b s start n = omega (arith, to_next (x - 1)) in
              let smaller : enumerator_word b.types (enums_to b s start n) ≤ enumerator_word b.types (enums_to b s start (suc n)) =
              word_up b.types (enums_to b s start n) (enums_to b s start (suc n)) (to_up n (suc n) (omega arith)) in
              ap (λ (z : List ℕ). get_word z (enumerator_word b.types (enums_to b s start (x - 1) + k))) (put_next w n)
              ∙ enum_older b.types (get_or start (suc n) 0) (values_at b s (get_or start (suc n) 0)) (suc n) (enums_to b s start n) (enums_put b s start w n)
              (enums_to b s start (x - 1) + k) less l
              ∙ value_at n x k a (omega arith) (omega arith) h (omega arith)
        ]

  -- ---- tags and classes leave the first word of an enumerator
  tag_past : (entry x : ℕ) (w : List ℕ) (i : ℕ) → x < b.types → b.types * 16 ≤ i → get_word (tag_put b s entry x w) i ≡ get_word w i
  unfolding tag_put
  tag_past entry x w i a l = go (eqb (entry % 32) 17) (ltb (section_word b s (entry / 32 + 8)) b.types) refl
    where
      to : ℕ
      to = section_word b s (entry / 32 + 8)

      both : List ℕ
      both = put_field (put_field w x 10 (get_field w to 9)) to 9 x

      go : (t u : Bool) → ltb to b.types ≡ u → get_word (elim t as (λ z. List ℕ) [ true ↦ elim u as (λ z. List ℕ) [ true ↦ both | false ↦ w ] | false ↦ w ]) i ≡ get_word w i
      go true true e =
          get_put_other (put_field w x 10 (get_field w to 9)) (to * 16 + 9) i x (λ q. absurd (omega (arith, ltb-true to b.types e)))
          ∙ get_put_other w (x * 16 + 10) i (get_field w to 9) (λ q. absurd (omega arith))
      go true false e = refl
      go false u e = refl

  pub tags_past : (m : ℕ) (w : List ℕ) (i : ℕ) → m < b.types → b.types * 16 ≤ i → get_word (tags_put b s start m w) i ≡ get_word w i
  unfolding tags_put
  tags_past zero w i a l = refl
  tags_past (suc m) w i a l = tags_past m (tag_put b s (get_or start (suc m) 0) (suc m) w) i (omega arith) l ∙ tag_past (get_or start (suc m) 0) (suc m) w i a l

  enumerator_apart : (e f g h : ℕ) → f < 16 → g < 8 → g ≢ 0 → enumerator_word b.types e ≢ place_of b.types f g h
  unfolding enumerator_word
  enumerator_apart e f g h a c n q =
      ⊎_elim
      (λ m. absurd (omega (arith, q, place_type b.types f g h m)))
      (λ m. n (same (q ∙ sym (place_enum b.types f g h m))))
      (cases_lt h b.types)
    where
      same : b.types * 16 + e * 8 ≡ b.types * 16 + (h - b.types) * 8 + g → g ≡ 0
      same z = omega arith

  pub classes_past : (n e : ℕ) (w : List ℕ) → get_word (table_classed b n s w) (enumerator_word b.types e) ≡ get_word w (enumerator_word b.types e)
  classes_past n e w =
      (the_words b n s w).else (enumerator_word b.types e)
      (λ h m. (enumerator_apart e 5 1 h (omega arith) (omega arith) (λ q. absurd (omega arith)), enumerator_apart e 7 3 h (omega arith) (omega arith) (λ q. absurd (omega arith)), enumerator_apart e 8 4 h (omega arith) (omega arith) (λ q. absurd (omega arith))))

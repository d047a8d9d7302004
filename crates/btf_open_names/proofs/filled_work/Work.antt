-- What success left, read back from the work: word 0 of a type is the place of its record. Assumes nothing.
use Prim.Native.Nat.{ℕ, zero, suc, ◌+◌, ◌-◌, ◌*◌, ◌/◌, ◌%◌, ◌<◌, ◌≤◌}
use mathlib.Core.Path.{◌≡◌, refl, ap, ◌∙◌, sym}
use mathlib.Core.Bool.{Bool, true, false}
use mathlib.Core.List.{List}
use mathlib.Core.Logic.{⊎_elim, ◌≢◌}
use native.Mathlib.Omega.{arith}
use native.Mathlib.Decide.{ℕ_discrete}
use lib.ListN.{length, get_or}
use lib.Dec.{ltb, eqb}
use Rattle.std.proofs.lemmas.Bool.{cases_lt}
use Rattle.spec_bytes.specs.words.Words.{get_word}
use Rattle.spec_bytes.proofs.words.Laws.{get_put_same, get_put_other, put_length}
use Rattle.spec_type_table.specs.declared.types.TypeTable.{TypeTable}
use Rattle.spec_type_table.specs.Cells.{get_field, put_field, place_of}
use Rattle.spec_type_table.specs.Records.{section_word}
use Rattle.spec_type_table.proofs.Laws.{place_type, place_enum}
use Rattle.spec_type_table.proofs.Frame.{field_other}
use Rattle.btf_open_names.specs.name_classes.Classes.{table_classed}
use Rattle.btf_open_names.proofs.name_classes.Ledger.{the_words}
use Rattle.btf_open_names.specs.filled_work.Left.{places_put, value_place, enumerator_word, values_put, is_enum, enum_with, values_at, tag_put, enums_to, enums_put, tags_put, filled}

-- ---- which words each part leaves as they were
-- word f of a type, where f is no class and no scratch word
module _ (types id f : ℕ) (l : id < types) (f16 : f < 16) where
  place_other : (g k h : ℕ) → g < 16 → f ≢ g → id * 16 + f ≢ place_of types g k h
  place_other g k h g16 n e =
      ⊎_elim
      (λ m. n (same (e ∙ sym (place_type types g k h m))))
      (λ m. absurd (omega (arith, e, place_enum types g k h m)))
      (cases_lt h types)
    where
      same : id * 16 + f ≡ h * 16 + g → f ≡ g
      same q = omega arith

  pub classes_keep : f ≢ 5 → f ≢ 7 → f ≢ 8 → (b : TypeTable) → b.types ≡ types → (e : ℕ) (s w : List ℕ) → get_field (table_classed b e s w) id f ≡ get_field w id f
  classes_keep a c d b q e s w = (the_words b e s w).else (id * 16 + f) (λ h m. (apart 5 1 h a five, apart 7 3 h c seven, apart 8 4 h d eight))
    where
      five : 5 < 16
      five = omega arith

      seven : 7 < 16
      seven = omega arith

      eight : 8 < 16
      eight = omega arith

      apart : (g k h : ℕ) → f ≢ g → g < 16 → id * 16 + f ≢ place_of b.types g k h
      apart g k h n g16 r = place_other g k h g16 n (r ∙ ap (λ (t : ℕ). place_of t g k h) q)

module _ (b : TypeTable) (s : List ℕ) where
  tag_keeps : (entry x : ℕ) (w : List ℕ) (id f : ℕ) → f < 16 → f ≢ 9 → f ≢ 10 → get_field (tag_put b s entry x w) id f ≡ get_field w id f
  unfolding tag_put
  tag_keeps entry x w id f a n m = go (eqb (entry % 32) 17) (ltb (section_word b s (entry / 32 + 8)) b.types)
    where
      on : ℕ
      on = section_word b s (entry / 32 + 8)

      put : List ℕ
      put = put_field (put_field w x 10 (get_field w on 9)) on 9 x

      go : (t u : Bool) → get_field (elim t as (λ z. List ℕ) [ true ↦ elim u as (λ z. List ℕ) [ true ↦ put | false ↦ w ] | false ↦ w ]) id f ≡ get_field w id f
      go true true =
          field_other (put_field w x 10 (get_field w on 9)) on 9 x id f (omega arith) a (λ e. n (sym e))
          ∙ field_other w x 10 (get_field w on 9) id f (omega arith) a (λ e. m (sym e))
      go true false = refl
      go false u = refl

  pub tags_keep : (start : List ℕ) (n : ℕ) (w : List ℕ) (id f : ℕ) → f < 16 → f ≢ 9 → f ≢ 10 → get_field (tags_put b s start n w) id f ≡ get_field w id f
  unfolding tags_put
  tags_keep start zero w id f a c d = refl
  tags_keep start (suc n) w id f a c d =
      tags_keep start n (tag_put b s (get_or start (suc n) 0) (suc n) w) id f a c d ∙ tag_keeps (get_or start (suc n) 0) (suc n) w id f a c d

-- words of types come before those of enumerators
values_keep : (types kind at first : ℕ) (w : List ℕ) (n i : ℕ) → i < types * 16 → get_word (values_put types kind at first w n) i ≡ get_word w i
unfolding values_put enumerator_word
values_keep types kind at first w zero i l = refl
values_keep types kind at first w (suc n) i l =
    get_put_other (values_put types kind at first w n) (types * 16 + (first + n) * 8) i (value_place kind at n) (λ e. absurd (omega arith))
    ∙ values_keep types kind at first w n i l

enum_keeps : (types entry n x first : ℕ) (w : List ℕ) (id f : ℕ) → id < types → f < 16 → f ≢ 12 → get_field (enum_with types entry n x first w) id f ≡ get_field w id f
unfolding enum_with
enum_keeps types entry n x first w id f l a c = go (is_enum (entry % 32))
  where
    go : (t : Bool)
        → get_field (elim t as (λ z. List ℕ) [ true ↦ values_put types (entry % 32) (entry / 32) first (put_field w x 12 (first % 4294967296)) n | false ↦ w ]) id f ≡ get_field w id f
    go true =
        values_keep types (entry % 32) (entry / 32) first (put_field w x 12 (first % 4294967296)) n (id * 16 + f) (omega arith)
        ∙ field_other w x 12 (first % 4294967296) id f (omega arith) a (λ e. c (sym e))
    go false = refl

module _ (b : TypeTable) (s start : List ℕ) where
  pub enums_keep : (w : List ℕ) (n id f : ℕ) → id < b.types → f < 16 → f ≢ 12 → get_field (enums_put b s start w n) id f ≡ get_field w id f
  unfolding enums_put
  enums_keep w zero id f l a c = refl
  enums_keep w (suc n) id f l a c =
      enum_keeps b.types (get_or start (suc n) 0) (values_at b s (get_or start (suc n) 0)) (suc n) (enums_to b s start n) (enums_put b s start w n) id f l a c
      ∙ enums_keep w n id f l a c

pub places_keep : (start w : List ℕ) (n id f : ℕ) → f < 16 → f ≢ 0 → get_field (places_put start w n) id f ≡ get_field w id f
unfolding places_put
places_keep start w zero id f a c = refl
places_keep start w (suc n) id f a c =
    field_other (places_put start w n) (suc n) 0 (get_or start (suc n) 0 / 32) id f (omega arith) a (λ e. c (sym e)) ∙ places_keep start w n id f a c

-- void has no place
pub places_void : (start w : List ℕ) (n : ℕ) → get_field (places_put start w n) 0 0 ≡ get_field w 0 0
unfolding places_put
places_void start w zero = refl
places_void start w (suc n) =
    get_put_other (places_put start w n) (suc n * 16 + 0) (0 * 16 + 0) (get_or start (suc n) 0 / 32) (λ e. absurd (omega arith)) ∙ places_void start w n

-- ---- lengths
pub places_long : (start w : List ℕ) (n : ℕ) → length (places_put start w n) ≡ length w
unfolding places_put
places_long start w zero = refl
places_long start w (suc n) = put_length (places_put start w n) (suc n * 16 + 0) (get_or start (suc n) 0 / 32) ∙ places_long start w n

-- ---- word 0
pub places_at : (start w : List ℕ) (n x : ℕ) → 1 ≤ x → x ≤ n → n * 16 < length w / 4 → get_field (places_put start w n) x 0 ≡ get_or start x 0 / 32
unfolding places_put
places_at start w zero x a c l = absurd (omega arith)
places_at start w (suc n) x a c l =
    elim (ℕ_discrete x (suc n)) [
      | yes e ↦ ap (λ (q : ℕ). get_field (places_put start w (suc n)) q 0) e
          ∙ get_put_same (places_put start w n) (suc n * 16 + 0) (get_or start (suc n) 0 / 32) (room (places_long start w n))
          ∙ ap (λ (q : ℕ). get_or start q 0 / 32) (sym e)
      | no ne ↦ get_put_other (places_put start w n) (suc n * 16 + 0) (x * 16 + 0) (get_or start (suc n) 0 / 32) (λ e. ne (omega arith)) ∙ places_at start w n x a (omega arith) (omega arith)
    ]
  where
    room : length (places_put start w n) ≡ length w → suc n * 16 + 0 < length (places_put start w n) / 4
    room e = rw e (omega arith)

module _ (b : TypeTable) (s start : List ℕ) (e : ℕ) (w : List ℕ) (room : b.types * 16 ≤ length w / 4) where
  pub filled_place : (id : ℕ) → 1 ≤ id → id < b.types → get_field (filled b s start e w) id 0 ≡ get_or start id 0 / 32
  unfolding filled
  filled_place id a l =
      let n = b.types - 1 in
      let w1 = places_put start w n in
      let w2 = enums_put b s start w1 n in
      classes_keep b.types id 0 l (omega arith) (λ q. absurd (omega arith)) (λ q. absurd (omega arith)) (λ q. absurd (omega arith)) b refl e s (tags_put b s start n w2)
      ∙ tags_keep b s start n w2 id 0 (omega arith) (λ q. absurd (omega arith)) (λ q. absurd (omega arith))
      ∙ enums_keep b s start w1 n id 0 l (omega arith) (λ q. absurd (omega arith))
      ∙ places_at start w n id a (omega arith) (omega arith)

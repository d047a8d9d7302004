-- All other words of the work are zero. Assumes nothing.
use Prim.Native.Nat.{ℕ, zero, suc, ◌+◌, ◌-◌, ◌*◌, ◌/◌, ◌%◌, ◌<◌, ◌≤◌}
use mathlib.Core.Path.{◌≡◌, refl, ◌∙◌}
use mathlib.Core.Bool.{Bool, true, false}
use mathlib.Core.List.{List}
use mathlib.Core.Logic.{⊎_elim, ◌≢◌}
use native.Mathlib.Omega.{arith}
use lib.ListN.{length, get_or, replicate}
use lib.Dec.{ltb, eqb}
use borrow.Author.Tests.{ltb-true}
use Rattle.std.proofs.lemmas.Bool.{cases_lt}
use Rattle.spec_bytes.specs.words.Words.{get_word}
use Rattle.spec_bytes.proofs.words.Laws.{get_in, get_out, get_put_other, get_replicate}
use Rattle.spec_type_table.specs.declared.types.TypeTable.{TypeTable}
use Rattle.spec_type_table.specs.Cells.{get_field, put_field, count_p}
use Rattle.spec_type_table.specs.Records.{section_word}
use Rattle.spec_type_table.proofs.Laws.{place_type, place_enum}
use Rattle.btf_open_names.specs.filled_work.Left.{places_put, value_place, enumerator_word, values_put, is_enum, enum_with, values_at, tag_put, enums_to, enums_put, tags_put}

pub zeros_word : (n i : ℕ) → get_word (replicate n 0) i ≡ 0
zeros_word n i =
    ⊎_elim
    (λ l. get_in (replicate n 0) i l ∙ rw (get_replicate {A = ℕ} 0 n (i * 4), get_replicate {A = ℕ} 0 n (i * 4 + 1), get_replicate {A = ℕ} 0 n (i * 4 + 2), get_replicate {A = ℕ} 0 n (i * 4 + 3)))
    (λ l. get_out (replicate n 0) i l)
    (cases_lt i (length {A = ℕ} (replicate n 0) / 4))

-- word i is no place, no first enumerator, no first or next tag of a type, and no place of an enumerator
pub record Other (types i : ℕ) : Type 0 where
  pub place : (x : ℕ) → x < types → i ≢ x * 16 + 0
  pub first : (x : ℕ) → x < types → i ≢ x * 16 + 12
  pub tag : (x : ℕ) → x < types → i ≢ x * 16 + 9
  pub next : (x : ℕ) → x < types → i ≢ x * 16 + 10
  pub value : (e : ℕ) → i ≢ enumerator_word types e

module _ (b : TypeTable) (s start : List ℕ) (i : ℕ) (o : Other b.types i) where
  places_else : (w : List ℕ) (n : ℕ) → n < b.types → get_word (places_put start w n) i ≡ get_word w i
  unfolding places_put
  places_else w zero l = refl
  places_else w (suc n) l =
      get_put_other (places_put start w n) (suc n * 16 + 0) i (get_or start (suc n) 0 / 32) (o.place (suc n) l) ∙ places_else w n (omega arith)

  values_else : (kind at first : ℕ) (w : List ℕ) (n : ℕ) → get_word (values_put b.types kind at first w n) i ≡ get_word w i
  unfolding values_put
  values_else kind at first w zero = refl
  values_else kind at first w (suc n) =
      get_put_other (values_put b.types kind at first w n) (enumerator_word b.types (first + n)) i (value_place kind at n) (o.value (first + n)) ∙ values_else kind at first w n

  enum_else : (entry n x first : ℕ) (w : List ℕ) → x < b.types → get_word (enum_with b.types entry n x first w) i ≡ get_word w i
  unfolding enum_with
  enum_else entry n x first w l = go (is_enum (entry % 32))
    where
      go : (t : Bool)
          → get_word (elim t as (λ z. List ℕ) [ true ↦ values_put b.types (entry % 32) (entry / 32) first (put_field w x 12 (first % 4294967296)) n | false ↦ w ]) i ≡ get_word w i
      go true =
          values_else (entry % 32) (entry / 32) first (put_field w x 12 (first % 4294967296)) n
          ∙ get_put_other w (x * 16 + 12) i (first % 4294967296) (o.first x l)
      go false = refl

  enums_else : (w : List ℕ) (n : ℕ) → n < b.types → get_word (enums_put b s start w n) i ≡ get_word w i
  unfolding enums_put
  enums_else w zero l = refl
  enums_else w (suc n) l =
      enum_else (get_or start (suc n) 0) (values_at b s (get_or start (suc n) 0)) (suc n) (enums_to b s start n) (enums_put b s start w n) l ∙ enums_else w n (omega arith)

  tag_else : (entry x : ℕ) (w : List ℕ) → x < b.types → get_word (tag_put b s entry x w) i ≡ get_word w i
  unfolding tag_put
  tag_else entry x w l = go (eqb (entry % 32) 17) (ltb (section_word b s (entry / 32 + 8)) b.types) refl
    where
      to : ℕ
      to = section_word b s (entry / 32 + 8)

      both : List ℕ
      both = put_field (put_field w x 10 (get_field w to 9)) to 9 x

      go : (t u : Bool) → ltb to b.types ≡ u → get_word (elim t as (λ z. List ℕ) [ true ↦ elim u as (λ z. List ℕ) [ true ↦ both | false ↦ w ] | false ↦ w ]) i ≡ get_word w i
      go true true e =
          get_put_other (put_field w x 10 (get_field w to 9)) (to * 16 + 9) i x (o.tag to (ltb-true to b.types e))
          ∙ get_put_other w (x * 16 + 10) i (get_field w to 9) (o.next x l)
      go true false e = refl
      go false u e = refl

  tags_else : (m : ℕ) (w : List ℕ) → m < b.types → get_word (tags_put b s start m w) i ≡ get_word w i
  unfolding tags_put
  tags_else zero w l = refl
  tags_else (suc m) w l = tags_else m (tag_put b s (get_or start (suc m) 0) (suc m) w) (omega arith) ∙ tag_else (get_or start (suc m) 0) (suc m) w l

  -- before the classes are put in
  pub before_else : (w : List ℕ) → 1 ≤ b.types
      → get_word (tags_put b s start (b.types - 1) (enums_put b s start (places_put start w (b.types - 1)) (b.types - 1))) i ≡ get_word w i
  before_else w l =
      tags_else (b.types - 1) (enums_put b s start (places_put start w (b.types - 1)) (b.types - 1)) (omega arith)
      ∙ enums_else (places_put start w (b.types - 1)) (b.types - 1) (omega arith)
      ∙ places_else w (b.types - 1) (omega arith)

-- word g of an enumerator but its first; word f of a type but 0, 9, 10 and 12
pub other_value : (types e g : ℕ) → g < 8 → g ≢ 0 → Other types (types * 16 + e * 8 + g)
unfolding enumerator_word
other_value types e g l n = record {
  place = λ x m q. omega arith;
  first = λ x m q. omega arith;
  tag = λ x m q. omega arith;
  next = λ x m q. omega arith;
  value = λ k q. n (omega arith);
}

pub other_field : (types id f : ℕ) → id < types → f < 16 → f ≢ 0 → f ≢ 9 → f ≢ 10 → f ≢ 12 → Other types (id * 16 + f)
unfolding enumerator_word
other_field types id f l m a c d e = record {
  place = λ x k q. a (omega arith);
  first = λ x k q. e (omega arith);
  tag = λ x k q. c (omega arith);
  next = λ x k q. d (omega arith);
  value = λ k q. omega arith;
}

-- no count yet
pub other_count : (types h : ℕ) → Other types (count_p types h)
other_count types h =
    ⊎_elim
    (λ l. rw (← place_type types 6 2 h l)
    (other_field types h 6 l (omega arith) (λ q. absurd (omega arith)) (λ q. absurd (omega arith)) (λ q. absurd (omega arith)) (λ q. absurd (omega arith))))
    (λ l. rw (← place_enum types 6 2 h l) (other_value types (h - types) 2 (omega arith) (λ q. absurd (omega arith))))
    (cases_lt h types)

-- What a store into the work leaves alone: the table reads words 0, 9 and 10 of types, and the number of an enumerator word 12.
-- Stores of versions (word 4) and of counts (word 6 of a type, word 2 of an enumerator) change neither. Assumes nothing.
use Prim.Native.Nat.{ℕ, zero, suc, ◌+◌, ◌-◌, ◌*◌, ◌<◌}
use mathlib.Core.Path.{◌≡◌, refl, ap, ◌∙◌, sym}
use mathlib.Core.List.{List, [], ◌∷◌}
use mathlib.Core.Bool.{Bool, true, false, ◌&&◌}
use mathlib.Core.Logic.{⊎_elim, ◌≢◌}
use native.Mathlib.Omega.{arith}
use lib.Dec.{ltb, leb, eqb}
use lib.ListN.{length}
use borrow.Author.Tests.{ltb-true}
use Rattle.std.proofs.lemmas.Bool.{cases_lt}
use Rattle.spec_bytes.specs.words.Words.{get_word, put_word}
use Rattle.spec_bytes.proofs.words.Laws.{get_put_other, put_length}
use Rattle.spec_c_dumper.specs.rules.Names.{Resolved}
use Rattle.spec_type_table.specs.declared.types.TypeTable.{TypeTable}
use Rattle.spec_type_table.specs.declared.types.BtfType.{BtfType as Record}
use Rattle.spec_type_table.specs.Cells.{get_field, put_field, class_p, count_p, count_raised, with_more}
use Rattle.spec_type_table.specs.Numbers.{number_at}
use Rattle.spec_type_table.specs.Records.{record_at, void_record, record_by_id}
use Rattle.spec_type_table.specs.Table.{type_of, tags_from, tags_of, btf_of, type_version_in, value_version_in, enumerator_of}
use Rattle.spec_type_table.proofs.Laws.{place_type, place_enum}

-- two words of types
pub words_apart : (i j f g : ℕ) → f < 16 → g < 16 → f ≢ g → j * 16 + g ≢ i * 16 + f
words_apart i j f g a b n e = n (omega arith)

-- another word of a type is as it was
pub field_other : (w : List ℕ) (i f v j g : ℕ) → f < 16 → g < 16 → f ≢ g → get_field (put_field w i f v) j g ≡ get_field w j g
field_other w i f v j g a b n = get_put_other w (i * 16 + f) (j * 16 + g) v (words_apart i j f g a b n)

-- no word of a type that the table reads is a count; word 10 of what is no type may be one
module _ (types c j : ℕ) where
  count_apart : (g : ℕ) → (j * 16 + g ≡ c * 16 + 6 → ⊥) → (j * 16 + g ≡ types * 16 + (c - types) * 8 + 2 → ⊥) → j * 16 + g ≢ count_p types c
  count_apart g a b e =
      ⊎_elim
      (λ l. a (e ∙ sym (place_type types 6 2 c l)))
      (λ l. b (e ∙ sym (place_enum types 6 2 c l)))
      (cases_lt c types)

  pub count_0 : j * 16 + 0 ≢ count_p types c
  count_0 = count_apart 0 (λ e. omega arith) (λ e. omega arith)

  pub count_4 : j * 16 + 4 ≢ count_p types c
  count_4 = count_apart 4 (λ e. omega arith) (λ e. omega arith)

  pub count_9 : j * 16 + 9 ≢ count_p types c
  count_9 = count_apart 9 (λ e. omega arith) (λ e. omega arith)

  pub count_12 : j * 16 + 12 ≢ count_p types c
  count_12 = count_apart 12 (λ e. omega arith) (λ e. omega arith)

  pub count_10 : j < types → j * 16 + 10 ≢ count_p types c
  count_10 l = count_apart 10 (λ e. omega arith) (λ e. omega arith)

-- ---- what the table reads
module _ (u w : List ℕ) where
  pub tags_same : (n types : ℕ) → ((x : ℕ) → x < types → get_field u x 10 ≡ get_field w x 10) → (last x : ℕ) → tags_from n types u last x ≡ tags_from n types w last x
  unfolding tags_from
  tags_same zero types h last x = refl
  tags_same (suc n) types h last x = go (ltb last x) (ltb x types) refl (λ y. tags_same n types h x y)
    where
      go : (p q : Bool) → ltb x types ≡ q → ((y : ℕ) → tags_from n types u x y ≡ tags_from n types w x y) → ◌≡◌ {A = List ℕ} (elim (p && q) as (λ z. List ℕ) [ true ↦ x ∷ tags_from n types u x (get_field u x 10) | false ↦ [] ]) (elim (p && q) as (λ z. List ℕ) [ true ↦ x ∷ tags_from n types w x (get_field w x 10) | false ↦ [] ])
      go false q e f = refl
      go true false e f = refl
      go true true e f =
          ap (λ (l : List ℕ). x ∷ l)
          (f (get_field u x 10) ∙ ap (tags_from n types w x) (h x (ltb-true x types e)))

  module _ (b : TypeTable) (s : List ℕ) (h0 : (j : ℕ) → get_field u j 0 ≡ get_field w j 0) where
    pub record_same : (id : ℕ) → record_by_id b s u id ≡ record_by_id b s w id
    unfolding record_by_id
    record_same id =
        ap (λ (x : ℕ). elim (eqb id 0) as (λ z. Record) [ true ↦ void_record | false ↦ elim (leb b.types id) as (λ z. Record) [ true ↦ void_record | false ↦ record_at b s x ] ]) (h0 id)

    module _ (h9 : (j : ℕ) → get_field u j 9 ≡ get_field w j 9) (h10 : (j : ℕ) → j < b.types → get_field u j 10 ≡ get_field w j 10) where
      pub tags_of_same : (id : ℕ) → tags_of b.types u id ≡ tags_of b.types w id
      unfolding tags_of
      tags_of_same id =
          tags_same 4294967296 b.types h10 0 (get_field u id 9)
          ∙ ap (tags_from 4294967296 b.types w 0) (h9 id)

      -- two works with the same words 0, 9 and 10 spell the same table
      pub table_same : btf_of b s u ≡ btf_of b s w
      unfolding btf_of
      table_same = λ i. record {
        ptr_sz = b.ptr_sz;
        union_as_struct = b.union_as_struct;
        strong_arrays = b.strong_arrays;
        placing = b.placing;
        type_cnt = b.types;
        type_by_id = λ id. type_of b s (record_same id i);
        decl_tags = λ id. tags_of_same id i;
      }

  pub enumerator_same : (id k : ℕ) → get_field u id 12 ≡ get_field w id 12 → enumerator_of u id k ≡ enumerator_of w id k
  unfolding enumerator_of
  enumerator_same id k e =
      ap (λ (x : ℕ). elim (leb (x + k) 4294967295) as (λ z. ℕ) [ true ↦ x + k | false ↦ 4294967295 ]) e

-- ---- a word of a type
module _ (w : List ℕ) (id f v : ℕ) (below : f < 16) where
  pub table_field : (b : TypeTable) (s : List ℕ) → f ≢ 0 → f ≢ 9 → f ≢ 10 → btf_of b s (put_field w id f v) ≡ btf_of b s w
  table_field b s n0 n9 n10 =
      table_same (put_field w id f v) w b s
      (λ j. field_other w id f v j 0 below (omega arith) n0)
      (λ j. field_other w id f v j 9 below (omega arith) n9)
      (λ j l. field_other w id f v j 10 below (omega arith) n10)

  pub enumerator_field : (x k : ℕ) → f ≢ 12 → enumerator_of (put_field w id f v) x k ≡ enumerator_of w x k
  enumerator_field x k n = enumerator_same (put_field w id f v) w x k (field_other w id f v x 12 below (omega arith) n)

-- ---- one more holder of a name
module _ (w : List ℕ) (i : ℕ) where
  pub more_length : length (with_more w i) ≡ length w
  unfolding with_more
  more_length = go (ltb (get_word w i) 4294967295)
    where
      go : (t : Bool) → length {A = ℕ} (elim t as (λ z. List ℕ) [ true ↦ put_word w i (get_word w i + 1) | false ↦ w ]) ≡ length w
      go true = put_length w i (get_word w i + 1)
      go false = refl

  pub more_other : (k : ℕ) → k ≢ i → get_word (with_more w i) k ≡ get_word w k
  unfolding with_more
  more_other k n = go (ltb (get_word w i) 4294967295)
    where
      go : (t : Bool) → get_word (elim t as (λ z. List ℕ) [ true ↦ put_word w i (get_word w i + 1) | false ↦ w ]) k ≡ get_word w k
      go true = get_put_other w i k (get_word w i + 1) n
      go false = refl

module _ (types : ℕ) (w : List ℕ) (h : ℕ) where
  -- a word that is no count is as it was
  pub counted_other : (k : ℕ) → ((c : ℕ) → k ≢ count_p types c) → get_word (count_raised (class_p types) (count_p types) w h) k ≡ get_word w k
  unfolding count_raised
  counted_other k n = more_other w (count_p types (get_word w (class_p types h))) k (n (get_word w (class_p types h)))

  pub enumerator_counted : (x k : ℕ) → enumerator_of (count_raised (class_p types) (count_p types) w h) x k ≡ enumerator_of w x k
  enumerator_counted x k = enumerator_same _ w x k (counted_other (x * 16 + 12) (λ c. count_12 types c x))

module _ (b : TypeTable) (s w : List ℕ) where
  pub table_counted : (h : ℕ) → btf_of b s (count_raised (class_p b.types) (count_p b.types) w h) ≡ btf_of b s w
  table_counted h =
      table_same _ w b s
      (λ j. counted_other b.types w h (j * 16 + 0) (λ c. count_0 b.types c j))
      (λ j. counted_other b.types w h (j * 16 + 9) (λ c. count_9 b.types c j))
      (λ j l. counted_other b.types w h (j * 16 + 10) (λ c. count_10 b.types c j l))

  -- ---- a name's version, of a type and of an enumerator
  pub table_type_version : (id : ℕ) → btf_of b s (type_version_in b.types id w).names ≡ btf_of b s w
  unfolding type_version_in
  table_type_version id = go (eqb (get_field w id 4) 0)
    where
      n : ℕ
      n = number_at b.types w id

      u : List ℕ
      u = count_raised (class_p b.types) (count_p b.types) w id

      go : (t : Bool) → btf_of b s (elim t as (λ z. Resolved (List ℕ)) [ false ↦ record { passes = false; version = get_field w id 4; names = w } | true ↦ record { passes = false; version = n; names = put_field u id 4 n } ]).names ≡ btf_of b s w
      go false = refl
      go true = table_field u id 4 n (omega arith) b s (λ e. omega arith) (λ e. omega arith) (λ e. omega arith) ∙ table_counted id

  pub table_value_version : (e : ℕ) → btf_of b s (value_version_in b.types e w).names ≡ btf_of b s w
  unfolding value_version_in
  table_value_version e = go (ltb (b.types + e) 4294967296)
    where
      n : ℕ
      n = number_at b.types w (b.types + e)

      u : List ℕ
      u = count_raised (class_p b.types) (count_p b.types) w (b.types + e)

      go : (t : Bool) → btf_of b s (elim t as (λ z. Resolved (List ℕ)) [ true ↦ record { passes = false; version = n; names = u } | false ↦ record { passes = false; version = 0; names = w } ]).names ≡ btf_of b s w
      go false = refl
      go true = table_counted (b.types + e)

module _ (types : ℕ) (w : List ℕ) (x k : ℕ) where
  pub enumerator_type_version : (id : ℕ) → enumerator_of (type_version_in types id w).names x k ≡ enumerator_of w x k
  unfolding type_version_in
  enumerator_type_version id = go (eqb (get_field w id 4) 0)
    where
      n : ℕ
      n = number_at types w id

      u : List ℕ
      u = count_raised (class_p types) (count_p types) w id

      go : (t : Bool) → enumerator_of (elim t as (λ z. Resolved (List ℕ)) [ false ↦ record { passes = false; version = get_field w id 4; names = w } | true ↦ record { passes = false; version = n; names = put_field u id 4 n } ]).names x k ≡ enumerator_of w x k
      go false = refl
      go true = enumerator_field u id 4 n (omega arith) x k (λ e. omega arith) ∙ enumerator_counted types w id x k

  pub enumerator_value_version : (e : ℕ) → enumerator_of (value_version_in types e w).names x k ≡ enumerator_of w x k
  unfolding value_version_in
  enumerator_value_version e = go (ltb (types + e) 4294967296)
    where
      n : ℕ
      n = number_at types w (types + e)

      u : List ℕ
      u = count_raised (class_p types) (count_p types) w (types + e)

      go : (t : Bool) → enumerator_of (elim t as (λ z. Resolved (List ℕ)) [ true ↦ record { passes = false; version = n; names = u } | false ↦ record { passes = false; version = 0; names = w } ]).names x k ≡ enumerator_of w x k
      go false = refl
      go true = enumerator_counted types w (types + e) x k

-- no name passes
module _ (types : ℕ) where
  pub type_within : (id : ℕ) (w : List ℕ) → (type_version_in types id w).passes ≡ false
  unfolding type_version_in
  type_within id w = go (eqb (get_field w id 4) 0)
    where
      n : ℕ
      n = number_at types w id

      u : List ℕ
      u = count_raised (class_p types) (count_p types) w id

      go : (t : Bool) → (elim t as (λ z. Resolved (List ℕ)) [ false ↦ record { passes = false; version = get_field w id 4; names = w } | true ↦ record { passes = false; version = n; names = put_field u id 4 n } ]).passes ≡ false
      go false = refl
      go true = refl

  pub value_within : (e : ℕ) (w : List ℕ) → (value_version_in types e w).passes ≡ false
  unfolding value_version_in
  value_within e w = go (ltb (types + e) 4294967296)
    where
      n : ℕ
      n = number_at types w (types + e)

      u : List ℕ
      u = count_raised (class_p types) (count_p types) w (types + e)

      go : (t : Bool) → (elim t as (λ z. Resolved (List ℕ)) [ true ↦ record { passes = false; version = n; names = u } | false ↦ record { passes = false; version = 0; names = w } ]).passes ≡ false
      go false = refl
      go true = refl

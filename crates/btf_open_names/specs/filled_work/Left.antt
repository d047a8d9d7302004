-- What a successful opening leaves in the work. `start` is the index of the records, place * 32 + kind of each; n counts records.
use Rattle.std.specs.Prelude.{ℕ, zero, suc, ◌+◌, ◌-◌, ◌*◌, ◌/◌, ◌%◌, Bool, true, false, List, [], ◌∷◌, get_or, ltb, eqb}
use Rattle.spec_bytes.specs.words.Words.{put_word, pick}
use Rattle.spec_type_table.specs.declared.types.TypeTable.{TypeTable}
use Rattle.spec_type_table.specs.Cells.{get_field, put_field}
use Rattle.spec_type_table.specs.Records.{section_word, vlen_of, member_at, param_at}
use Rattle.btf_open_names.specs.name_classes.Classes.{table_classed}

-- the place of each record in word 0 of its type
unfoldable pub places_put : List ℕ → List ℕ → ℕ → List ℕ
places_put start w zero = w
places_put start w (suc n) = put_field (places_put start w n) (suc n) 0 (get_or start (suc n) 0 / 32)

-- where value k of the ENUM or ENUM64 at a place stands
unfoldable pub value_place : ℕ → ℕ → ℕ → ℕ
value_place kind at k = pick (eqb kind 19) (member_at at k) (param_at at k)

-- the first word of an enumerator, which come after the types
unfoldable pub enumerator_word : ℕ → ℕ → ℕ
enumerator_word types e = types * 16 + e * 8

-- the places of the first n values of an enum, which are the enumerators from `first` on
unfoldable pub values_put : ℕ → ℕ → ℕ → ℕ → List ℕ → ℕ → List ℕ
values_put types kind at first w zero = w
values_put types kind at first w (suc n) =
    put_word (values_put types kind at first w n) (enumerator_word types (first + n)) (value_place kind at n)

-- ENUM and ENUM64
unfoldable pub is_enum : ℕ → Bool
is_enum kind = elim (eqb kind 6) [ true ↦ true | false ↦ eqb kind 19 ]

-- an enum of n values: its first enumerator in word 12, and the places of its values
unfoldable pub enum_with : ℕ → ℕ → ℕ → ℕ → ℕ → List ℕ → List ℕ
enum_with types entry n x first w =
    elim (is_enum (entry % 32)) [
      | true ↦ values_put types (entry % 32) (entry / 32) first (put_field w x 12 (first % 4294967296)) n
      | false ↦ w
    ]

module _ (b : TypeTable) (s : List ℕ) where
  -- how many values the type with an entry of the index has
  unfoldable pub values_at : ℕ → ℕ
  values_at entry = elim (is_enum (entry % 32)) [ true ↦ vlen_of (section_word b s (entry / 32 + 4)) | false ↦ 0 ]

  -- a tag on a type of the table goes in front of the tags of that type: word 9 of a type is its first tag, word 10 of a tag the next
  unfoldable pub tag_put : ℕ → ℕ → List ℕ → List ℕ
  tag_put entry x w =
      elim (eqb (entry % 32) 17) [
        | true ↦ elim (ltb (section_word b s (entry / 32 + 8)) b.types) [
          | true ↦ tag_on (section_word b s (entry / 32 + 8))
          | false ↦ w
        ]
        | false ↦ w
      ]
    where
      tag_on : ℕ → List ℕ
      tag_on on = put_field (put_field w x 10 (get_field w on 9)) on 9 x

  module _ (start : List ℕ) where
    -- the enumerators of the first n types after void
    unfoldable pub enums_to : ℕ → ℕ
    enums_to zero = 0
    enums_to (suc n) = enums_to n + values_at (get_or start (suc n) 0)

    unfoldable pub enums_put : List ℕ → ℕ → List ℕ
    enums_put w zero = w
    enums_put w (suc n) =
        enum_with b.types (get_or start (suc n) 0) (values_at (get_or start (suc n) 0)) (suc n) (enums_to n) (enums_put w n)

    -- from the last to the first, so that the tags of a type stand in rising order
    unfoldable pub tags_put : ℕ → List ℕ → List ℕ
    tags_put zero w = w
    tags_put (suc n) w = tags_put n (tag_put (get_or start (suc n) 0) (suc n) w)

    -- all of it, and the name classes
    unfoldable pub filled : ℕ → List ℕ → List ℕ
    filled enumerators w =
        table_classed b enumerators s (tags_put (b.types - 1) (enums_put (places_put start w (b.types - 1)) (b.types - 1)))

-- ---- read back: the lists that the work spells
-- the type with an entry of the index is a DECL_TAG on type id
unfoldable pub is_tag_on : TypeTable → List ℕ → ℕ → ℕ → Bool
is_tag_on b s id entry = elim (eqb (entry % 32) 17) [ true ↦ eqb (section_word b s (entry / 32 + 8)) id | false ↦ false ]

-- the tags on type id among the n types from x on, in rising order
unfoldable pub tags_on : TypeTable → List ℕ → List ℕ → ℕ → ℕ → ℕ → List ℕ
tags_on b s start id x zero = []
tags_on b s start id x (suc n) =
    elim (is_tag_on b s id (get_or start x 0)) [ true ↦ x ∷ tags_on b s start id (suc x) n | false ↦ tags_on b s start id (suc x) n ]

-- The declaration tags of what is marked, and the new numbers, as the code makes them. b has the count, s is the section, start its index
-- (`btf_open_causes::references`).
use Rattle.std.specs.Prelude.{ℕ, zero, suc, ◌+◌, Option, Some, None, true, false, List, length, get_or, set, ltb, eqb}
use Rattle.spec_bytes.specs.words.Words.{pick}
use Rattle.spec_type_table.specs.declared.types.TypeTable.{TypeTable}
use Rattle.spec_type_table.specs.Records.{section_word}
use Rattle.btf_open_causes.specs.references.Followed.{kind_at, place_of}

-- a number, where it is not 0
unfoldable pub some_number : ℕ → Option ℕ
some_number zero = None
some_number (suc n) = Some (suc n)

module _ (b : TypeTable) (s start : List ℕ) where
  -- "their declaration tags (no tags of tags or of void)": what the DECL_TAG x is on, where that is no DECL_TAG; else 0
  unfoldable pub tag_on : ℕ → ℕ
  tag_on x =
      pick (eqb (kind_at b start x) 17)
      (pick (eqb (kind_at b start (section_word b s (place_of b start x + 8))) 17) 0 (section_word b s (place_of b start x + 8))) 0

  unfoldable pub tagged_at : List ℕ → ℕ → List ℕ
  tagged_at m x =
      elim (eqb (tag_on x) 0) [
        | true ↦ m
        | false ↦ elim (eqb (get_or m (tag_on x) 0) 0) [ true ↦ m | false ↦ elim (ltb x (length m)) [ true ↦ set m x 1 | false ↦ m ] ]
      ]

  -- the ids 0 to n - 1
  unfoldable pub tagged_to : List ℕ → ℕ → List ℕ
  tagged_to m zero = m
  tagged_to m (suc n) = tagged_at (tagged_to m n) n

-- marks of which some are numbers already, and the last number
pub data Numbered : Type 0 where
  numbered : List ℕ → ℕ → Numbered

abbrev pub numbers_in : Numbered → List ℕ
numbers_in (numbered m c) = m

unfoldable pub numbered_at : Numbered → ℕ → Numbered
numbered_at (numbered m c) x =
    elim (eqb (get_or m x 0) 0) [
      | true ↦ numbered m c
      | false ↦ elim (ltb x (length m)) [ true ↦ numbered (set m x (suc c)) (suc c) | false ↦ numbered m c ]
    ]

unfoldable pub numbered_to : Numbered → ℕ → Numbered
numbered_to h zero = h
numbered_to h (suc n) = numbered_at (numbered_to h n) n

-- "ids renumbered in old order"
unfoldable pub numbers_of : List ℕ → List ℕ
numbers_of m = numbers_in (numbered_to (numbered m 0) 262145)

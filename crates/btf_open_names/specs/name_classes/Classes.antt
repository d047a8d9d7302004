-- The holders of names, their classes and their counts, in the words of the lent work. Nothing here speaks of a hash.
use Rattle.std.specs.Prelude.{ℕ, zero, suc, ◌+◌, ◌-◌, ◌*◌, ◌/◌, List, [], ◌∷◌, Bool, true, false, length, ltb, eqb}
use Rattle.spec_bytes.specs.words.Words.{get_word, put_word, pick}
use Rattle.spec_type_table.specs.declared.types.TypeTable.{TypeTable}
use Rattle.spec_type_table.specs.Cells.{place_of, count_raised, class_p}
use Rattle.spec_type_table.specs.Records.{section_word, kind_of}
use Rattle.spec_type_table.specs.Names.{name_at, name_place}
use Rattle.btf_open_names.specs.name_classes.Same.{same_list}

-- ---- any holders: `key` gives the space and the name of each
-- the least number up to h that has p; h where none has
unfoldable pub least : (ℕ → Bool) → ℕ → ℕ
least p zero = zero
least p (suc h) = keep (least p h)
  where
    keep : ℕ → ℕ
    keep r = pick (p r) r (suc h)

-- 01, Name ledger, "The first holder of a name": the least holder with the space and the name of h
unfoldable pub class_of : (ℕ → List ℕ) → ℕ → ℕ
class_of key h = least (λ c. same_list (key c) (key h)) h

-- 01, Name ledger, "the n-th": how many of hs have the space and the name of h
unfoldable pub times_of : (ℕ → List ℕ) → ℕ → List ℕ → ℕ
times_of key h [] = 0
times_of key h (k ∷ hs) = pick (same_list (key k) (key h)) (suc (times_of key h hs)) (times_of key h hs)

-- w with the words at 0, at 1, .., at (n - 1) set to g 0, g 1, .., g (n - 1)
unfoldable pub fill : (ℕ → ℕ) → (ℕ → ℕ) → List ℕ → ℕ → List ℕ
fill at g w zero = w
fill at g w (suc n) = put_word (fill at g w n) (at n) (g n)

abbrev pub noughts : ℕ → ℕ
noughts h = 0

-- the class of each of the first n holders at its word, its two scratch words 0, all other words as they were
unfoldable pub with_classes : (ℕ → List ℕ) → (class bucket link : ℕ → ℕ) → ℕ → List ℕ → List ℕ
with_classes key class bucket link n w = fill class (class_of key) (fill link noughts (fill bucket noughts w n) n) n

-- the work after a count for each of hs, the last of hs first
unfoldable pub counted_all : (class count : ℕ → ℕ) → List ℕ → List ℕ → List ℕ
counted_all class count w [] = w
counted_all class count w (h ∷ hs) = count_raised class count (counted_all class count w hs) h

-- ---- types and enumerators: holder h is type h below b's types, and after those an enumerator
-- the words of holders: where the record or entry stands, class, count, and the two scratch words
abbrev pub record_p : ℕ → ℕ → ℕ
record_p types = place_of types 0 0

abbrev pub bucket_p : ℕ → ℕ → ℕ
bucket_p types = place_of types 7 3

abbrev pub link_p : ℕ → ℕ → ℕ
link_p types = place_of types 8 4

-- whether x is one of l
unfoldable pub is_id_among : ℕ → List ℕ → Bool
is_id_among x [] = false
is_id_among x (y ∷ l) = elim (eqb x y) [ true ↦ true | false ↦ is_id_among x l ]

-- 01, Name ledger, "Two spaces: tags; typedefs": 0 for STRUCT, UNION, ENUM, FWD and ENUM64, 1 for TYPEDEF, 2 for neither
unfoldable pub space_of : ℕ → ℕ
space_of kind = pick (is_id_among kind (4 ∷ 5 ∷ 6 ∷ 7 ∷ 19 ∷ [])) 0 (pick (eqb kind 8) 1 2)

-- 01, Name ledger, "typedefs with enumerators": the space of holder h, whose record or entry stands at a place; void, holder 0, has none
unfoldable pub space_at : TypeTable → List ℕ → ℕ → ℕ → ℕ
space_at b s at h = pick (eqb h 0) 2 (pick (ltb h b.types) (space_of (kind_of (section_word b s (at + 4)))) 1)

-- 01, Section and type table, "offsets count from the header's end": where the name of the record or entry at a place starts
unfoldable pub name_of : TypeTable → List ℕ → ℕ → ℕ
name_of b s at = name_place b (section_word b s at)

-- a space and the name that starts at a place; without a space there is no name, so that all such holders are alike
unfoldable pub key_of : List ℕ → ℕ → ℕ → List ℕ
key_of s space name = space ∷ elim (eqb space 2) [ true ↦ [] | false ↦ name_at s name ]

-- the space and the name of holder h: the work says where its record or entry stands, the section what stands there
unfoldable pub key_in : TypeTable → List ℕ → List ℕ → ℕ → List ℕ
key_in b s w h = key_at (get_word w (record_p b.types h))
  where
    key_at : ℕ → List ℕ
    key_at at = key_of s (space_at b s at h) (name_of b s at)

-- the work with the class of each holder; as it was where the holders are too many to be numbered, or the work is too short
unfoldable pub table_classed : TypeTable → ℕ → List ℕ → List ℕ → List ℕ
table_classed b enumerators s w =
    elim (ltb (4294967295 - b.types) enumerators) [
      | true ↦ w
      | false ↦ elim (ltb (length w / 4) (b.types * 16 + enumerators * 8)) [
        | true ↦ w
        | false ↦ with_classes (key_in b s w) (class_p b.types) (bucket_p b.types) (link_p b.types) (b.types + enumerators) w
      ]
    ]

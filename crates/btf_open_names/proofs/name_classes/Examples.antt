-- A section of six types: STRUCT "ab", TYPEDEF "ab", UNION "abc", ENUM "b" with the enumerators "ab" and "abc", FWD "ab", FUNC "ab".
-- The string area is a 0 byte, "ab", "abc" and "ab" again, each with its 0: the FWD's and the first enumerator's name is
-- the second "ab", and "b" is the tail of the first.
use Prim.Native.Nat.{ℕ, ◌/◌, ◌%◌}
use mathlib.Core.Path.{◌≡◌, refl}
use mathlib.Core.List.{List, [], ◌∷◌, map}
use mathlib.Core.Bool.{false}
use lib.ListN.{get_or, replicate}
use Rattle.spec_bytes.specs.words.Words.{get_word, put_word, word_at, word_in, table, one_more}
use Rattle.spec_type_table.specs.declared.types.TypeTable.{TypeTable}
use Rattle.spec_type_table.specs.Cells.{place_of, with_more, count_after, count_raised, class_p, count_p}
use Rattle.spec_type_table.specs.Records.{section_word}
use Rattle.spec_type_table.specs.Names.{up_to_zero, name_at}
use Rattle.btf_open_names.specs.name_classes.Same.{same_list}
use Rattle.btf_open_names.specs.name_classes.Claims.{after_counts, next_count}
use Rattle.btf_open_names.specs.name_classes.Classes.{least, class_of, fill, with_classes, counted_all, record_p, bucket_p, link_p, is_id_among, space_of, space_at, name_of, key_of, key_in, table_classed}

-- words, lowest byte first, and bytes after them
pub bytes : List ℕ → List ℕ → List ℕ
bytes [] l = l
bytes (v ∷ vs) l = v % 256 ∷ v / 256 % 256 ∷ v / 65536 % 256 ∷ v / 16777216 ∷ bytes vs l

pub section : List ℕ
section =
    bytes
    (125855 ∷ 24 ∷ 0 ∷ 88 ∷ 88 ∷ 11
    ∷ 1 ∷ 67108864 ∷ 0
    ∷ 1 ∷ 134217728 ∷ 1
    ∷ 4 ∷ 83886080 ∷ 0
    ∷ 2 ∷ 100663298 ∷ 4 ∷ 8 ∷ 0 ∷ 4 ∷ 1
    ∷ 8 ∷ 117440512 ∷ 0
    ∷ 1 ∷ 201326592 ∷ 1 ∷ [])
    (0 ∷ 97 ∷ 98 ∷ 0 ∷ 97 ∷ 98 ∷ 99 ∷ 0 ∷ 97 ∷ 98 ∷ 0 ∷ [])

pub context : TypeTable
context = record { ptr_sz = 8; union_as_struct = false; big_endian = false; strong_arrays = false; placing = false; types = 7; strs = 112 }

-- the work with the places of the records and entries, and every other byte x
pub work : ℕ → List ℕ
work x = fill (record_p 7) (λ h. get_or (0 ∷ 24 ∷ 36 ∷ 48 ∷ 60 ∷ 88 ∷ 100 ∷ 72 ∷ 80 ∷ []) h 0) (replicate 514 x) 9

-- words of the nine holders in a work
pub nine : List ℕ → (ℕ → ℕ) → List ℕ
nine w place = table (λ h. get_word w (place h)) 0 9

-- class, bucket, link and count of each afterwards
pub after : ℕ → List (List ℕ)
after x = map (nine (table_classed context 2 section (work x))) (class_p 7 ∷ bucket_p 7 ∷ link_p 7 ∷ count_p 7 ∷ [])

-- kind by kind
pub spaces : table space_of 0 21 ≡ 2 ∷ 2 ∷ 2 ∷ 2 ∷ 0 ∷ 0 ∷ 0 ∷ 0 ∷ 1 ∷ 2 ∷ 2 ∷ 2 ∷ 2 ∷ 2 ∷ 2 ∷ 2 ∷ 2 ∷ 2 ∷ 2 ∷ 0 ∷ 2 ∷ []
unfolding space_of is_id_among
spaces = refl

pub some_keys : (key_in context section (work 1) 8 ≡ 1 ∷ 97 ∷ 98 ∷ 99 ∷ []) × (key_in context section (work 1) 6 ≡ 2 ∷ []) × (key_in context section (work 1) 0 ≡ 2 ∷ [])
unfolding bytes section context work fill key_in key_of space_at space_of is_id_among name_of name_at up_to_zero section_word word_in word_at place_of get_word put_word
some_keys = (refl, refl, refl)

-- the FWD has the class of the STRUCT, the first enumerator that of the TYPEDEF, the FUNC that of void; the scratch words are 0; the counts stay
pub found : after 1 ≡ (0 ∷ 1 ∷ 2 ∷ 3 ∷ 4 ∷ 1 ∷ 0 ∷ 2 ∷ 8 ∷ []) ∷ replicate 9 0 ∷ replicate 9 0 ∷ replicate 9 16843009 ∷ []
unfolding after nine bytes section context work table_classed with_classes fill class_of least same_list key_in key_of space_at space_of is_id_among name_of name_at up_to_zero section_word word_in word_at place_of get_word put_word
found = refl

-- the count of h after those of the STRUCT, the TYPEDEF, the UNION and the FWD
pub next : ℕ → ℕ
next = next_count context (after_counts context (table_classed context 2 section (work 0)) (5 ∷ 3 ∷ 2 ∷ 1 ∷ []))

-- the tag "ab" is had for the third time, the identifier "ab" for the second, the identifier "abc" for the first
pub counted_so : map next (1 ∷ 5 ∷ 7 ∷ 8 ∷ []) ≡ 3 ∷ 3 ∷ 2 ∷ 1 ∷ []
unfolding next counted_all count_raised with_more count_after one_more bytes section context work table_classed with_classes fill class_of least same_list key_in key_of space_at space_of is_id_among name_of name_at up_to_zero section_word word_in word_at place_of get_word put_word
counted_so = refl

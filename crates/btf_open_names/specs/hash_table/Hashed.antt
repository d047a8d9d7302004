-- The holders by the hash of their names, in two words of each that are 0 before and afterwards: how the base of a name is found, and no
-- part of what is found.
use Rattle.std.specs.Prelude.{ℕ, zero, suc, ◌+◌, ◌-◌, ◌*◌, ◌/◌, ◌<◌, ◌≡◌, List, Bool, true, false, length, get_or, ltb, eqb}
use Rattle.spec_bytes.specs.words.Words.{get_word, put_word}
use Rattle.spec_type_table.specs.declared.types.TypeTable.{TypeTable}
use Rattle.spec_type_table.specs.Cells.{place_of}
use Rattle.btf_open_names.specs.name_classes.Classes.{fill, key_in}
use Rattle.btf_open_names.specs.name_classes.Table.{bucket_of}

-- the two words: the first holder of a bucket, and the next one in a holder's bucket
abbrev pub first_p : ℕ → ℕ → ℕ
first_p types = place_of types 11 5

abbrev pub later_p : ℕ → ℕ → ℕ
later_p types = place_of types 13 7

-- ---- any holders: `key` gives the space and the name of each
-- the space of a key
abbrev pub space_in : List ℕ → ℕ
space_in l = get_or l 0 0

-- whether holder c has a space, and its bucket of n is j
unfoldable pub falls : (ℕ → List ℕ) → ℕ → ℕ → ℕ → Bool
falls key n j c = elim (eqb (space_in (key c)) 2) [ true ↦ false | false ↦ eqb (bucket_of key n c) j ]

-- the first of the f holders from c on in bucket j; or 0
unfoldable pub first_from : (ℕ → List ℕ) → ℕ → ℕ → ℕ → ℕ → ℕ
first_from key n j zero c = 0
first_from key n j (suc f) c = elim (falls key n j c) [ true ↦ c | false ↦ first_from key n j f (suc c) ]

-- with the holders from k up to n in the table: the first one of bucket j
unfoldable pub first_of : (ℕ → List ℕ) → ℕ → ℕ → ℕ → ℕ
first_of key n k j = first_from key n j (n - k) k

-- and the next one in the bucket of c; 0 for a holder that is not in the table
unfoldable pub later_of : (ℕ → List ℕ) → ℕ → ℕ → ℕ → ℕ
later_of key n k c =
    elim (ltb c k) [ true ↦ 0 | false ↦ elim (eqb (space_in (key c)) 2) [ true ↦ 0 | false ↦ first_of key n (suc c) (bucket_of key n c) ] ]

-- ---- types and enumerators
-- both words of the first n holders
unfoldable pub over : ℕ → ℕ → (first later : ℕ → ℕ) → List ℕ → List ℕ
over types n first later w = fill (first_p types) first (fill (later_p types) later w n) n

unfoldable pub table_from : TypeTable → List ℕ → ℕ → ℕ → List ℕ → List ℕ
table_from b s n k w = over b.types n (first_of (key_in b s w) n k) (later_of (key_in b s w) n k) w

-- holder c put in front of its bucket, if it has a space
unfoldable pub put_first : TypeTable → List ℕ → ℕ → ℕ → List ℕ → List ℕ
put_first b s n c w =
    elim (eqb (space_in (key_in b s w c)) 2) [
      | true ↦ w
      | false ↦ put_word
          (put_word w (later_p b.types c) (get_word w (first_p b.types (bucket_of (key_in b s w) n c))))
          (first_p b.types (bucket_of (key_in b s w) n c))
          c
    ]

-- whether the words at 0, at 1, .., at (n - 1) are 0
unfoldable pub all_zero : (ℕ → ℕ) → List ℕ → ℕ → Bool
all_zero at w zero = true
all_zero at w (suc n) = elim (eqb (get_word w (at n)) 0) [ true ↦ all_zero at w n | false ↦ false ]

-- whether there is room for the table: the holders can be numbered, the work is long enough, and both words of each holder are 0
unfoldable pub has_room : ℕ → ℕ → List ℕ → Bool
has_room types e w =
    elim (ltb (4294967295 - types) e) [
      | true ↦ false
      | false ↦ elim (ltb (length w / 4) (types * 16 + e * 8)) [
        | true ↦ false
        | false ↦ elim (all_zero (first_p types) w (types + e)) [ true ↦ all_zero (later_p types) w (types + e) | false ↦ false ]
      ]
    ]

-- the table of all holders but void, where there is room
unfoldable pub table_in : TypeTable → ℕ → List ℕ → List ℕ → List ℕ
table_in b e s w = elim (has_room b.types e w) [ true ↦ table_from b s (b.types + e) 1 w | false ↦ w ]

-- the table stands in w
pub record Table (b : TypeTable) (s w : List ℕ) (n : ℕ) : Type 0 where
  pub firsts : (j : ℕ) → j < n → get_word w (first_p b.types j) ≡ first_of (key_in b s w) n 1 j
  pub laters : (c : ℕ) → c < n → get_word w (later_p b.types c) ≡ later_of (key_in b s w) n 1 c

-- it does if t is true
abbrev pub TableIf : Bool → TypeTable → List ℕ → List ℕ → ℕ → Type 0
TableIf t b s w n = t ≡ true → Table b s w n

-- The table of names after the words of the kept types, and the length of the strings: each name is entered where it is mentioned for the
-- first time, its place is the length so far. A length above 16,777,216 stays as it is.
use Rattle.std.specs.Prelude.{ℕ, zero, suc, ◌+◌, ◌*◌, ◌%◌, true, false, List, length, get_or, set, replicate, ltb, eqb}
use Rattle.spec_c_dumper.specs.rules.Types.{is_empty}
use Rattle.spec_type_table.specs.declared.types.TypeTable.{TypeTable}
use Rattle.spec_type_table.specs.Names.{str_at}
use Rattle.btf_open_causes.specs.references.Followed.{type_count, entry_at}
use Rattle.session_cut_marks.specs.roles.Words.{role, words_in, word_of}
use Rattle.session_cut_marks.specs.mentioned.Names.{new_size}
use Rattle.session_cut_marks.specs.interned.Slots.{slot_of}

-- a table with nothing in it
unfoldable pub zero_table : List ℕ
zero_table = replicate 262144 0

-- the length, and the table
pub data Filled : Type 0 where
  filled_of : ℕ → List ℕ → Filled

unfoldable pub length_of : Filled → ℕ
length_of (filled_of len t) = len

unfoldable pub after : Filled → (ℕ → List ℕ → Filled) → Filled
after (filled_of len t) step = step len t

module _ (b : TypeTable) (s start ids : List ℕ) where
  module _ (x e j : ℕ) where
    -- the name of word j, whose slot is i: new where the slot is free; where it has no slot, the plain way says whether it is new
    unfoldable pub settled : ℕ → ℕ → ℕ → List ℕ → Filled
    settled off i len t =
        elim (ltb i (length t)) [
          | false ↦ filled_of (len + new_size b s start ids x e j) t
          | true ↦ elim (eqb (get_or t i 0) 0) [
            | true ↦ filled_of (len + (length (str_at b s off) + 1)) (set t i (off + len * 4294967296))
            | false ↦ filled_of len t
          ]
        ]

    unfoldable pub entered : ℕ → List ℕ → Filled
    entered len t =
        elim (ltb 16777216 len) [
          | true ↦ filled_of len t
          | false ↦ elim (eqb (role (e % 32) j) 1) [
            | false ↦ filled_of len t
            | true ↦ elim (is_empty (str_at b s (word_of b s e j))) [
              | true ↦ filled_of len t
              | false ↦ settled (word_of b s e j) (slot_of b s t (word_of b s e j)) len t
            ]
          ]
        ]

  -- after the first n words of type x
  unfoldable pub entered_to : ℕ → ℕ → ℕ → List ℕ → ℕ → Filled
  entered_to x e len t zero = filled_of len t
  entered_to x e len t (suc n) = after (entered_to x e len t n) (entered x e n)

  -- after type x, if it is kept
  unfoldable pub entered_type : ℕ → ℕ → List ℕ → Filled
  entered_type x len t = elim (eqb (get_or ids x 0) 0) [
    | true ↦ filled_of len t
    | false ↦ entered_to x (entry_at b start x) len t (words_in b s (entry_at b start x))
  ]

  -- after the types before x; the leading 0 is one byte
  unfoldable pub filled_to : List ℕ → ℕ → Filled
  filled_to t zero = filled_of 1 t
  filled_to t (suc x) = after (filled_to t x) (entered_type x)

  -- a list with the lengths before each of these types
  unfoldable pub lengths_to : List ℕ → List ℕ → ℕ → List ℕ
  lengths_to t l zero = l
  lengths_to t l (suc x) = set (lengths_to t l x) x (length_of (filled_to t x))

-- the length, the table and the lengths before each type
pub data Filling : Type 0 where
  filling_of : Filled → List ℕ → Filling

-- of all types; nothing of a section above 16,777,216 bytes
unfoldable pub filling : TypeTable → List ℕ → List ℕ → List ℕ → List ℕ → List ℕ → Filling
filling b s start ids t l =
    elim (ltb 16777216 (length s)) [
      | true ↦ filling_of (filled_of 0 t) l
      | false ↦ filling_of (filled_to b s start ids t (type_count b)) (lengths_to b s start ids t l (type_count b))
    ]

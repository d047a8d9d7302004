-- What is written: the header, the words of the kept records, each name or id replaced, and the new names.
use Rattle.std.specs.Prelude.{ℕ, zero, suc, ◌+◌, ◌*◌, ◌%◌, ◌/◌, Option, Some, None, Bool}
use Rattle.std.specs.Prelude.{true, false, List, [], ◌∷◌, ◌++◌, length, get_or, drop, ltb, eqb}
use Rattle.spec_c_dumper.specs.rules.Types.{is_empty}
use Rattle.spec_type_table.specs.declared.types.TypeTable.{TypeTable}
use Rattle.spec_type_table.specs.Names.{str_at}
use Rattle.btf_open_causes.specs.references.Followed.{type_count, entry_at}
use Rattle.session_cut_marks.specs.roles.Words.{role, words_in, word_of}
use Rattle.session_cut_marks.specs.mentioned.Names.{place_of, base_of, bases_to, zero_bases}
use Rattle.session_cut_marks.specs.mentioned.Strings.{name_bytes, names_bytes, own_bytes, news_bytes, strings_bytes}
use Rattle.session_cut.specs.declared.writer.source.Part.{Part}
use Rattle.session_cut.specs.declared.writer.source.Part.TheVariants.{Records, Names}
use Rattle.session_cut.specs.declared.writer.source.Told.{Told}
use Rattle.session_cut.specs.declared.writer.source.Told.TheVariants.{New, At, Elsewhere}
use Rattle.session_cut_marks.specs.interned.Slots.{found, slot_place}

-- a word in four bytes, the most significant first where `big`
unfoldable pub word_bytes : Bool → ℕ → List ℕ
word_bytes true v = v / 16777216 ∷ v / 65536 % 256 ∷ v / 256 % 256 ∷ v % 256 ∷ []
word_bytes false v = v % 256 ∷ v / 256 % 256 ∷ v / 65536 % 256 ∷ v / 16777216 ∷ []

-- struct btf_header: magic, version 1, flags; header length 24, type offset 0, type length, string offset, string length
unfoldable pub magic_bytes : Bool → ℕ → List ℕ
magic_bytes true flags = 235 ∷ 159 ∷ 1 ∷ flags ∷ []
magic_bytes false flags = 159 ∷ 235 ∷ 1 ∷ flags ∷ []

unfoldable pub head_bytes : Bool → ℕ → ℕ → ℕ → List ℕ
head_bytes big flags types strings =
    ((((magic_bytes big flags ++ word_bytes big 24) ++ word_bytes big 0) ++ word_bytes big types) ++ word_bytes big types)
    ++ word_bytes big strings

module _ (b : TypeTable) (s start ids : List ℕ) where
  -- the length of the types before x
  unfoldable pub type_size : ℕ → ℕ → ℕ
  type_size x len = elim (eqb (get_or ids x 0) 0) [ true ↦ len | false ↦ len + words_in b s (entry_at b start x) * 4 ]

  unfoldable pub types_size : ℕ → ℕ
  types_size zero = 0
  types_size (suc x) = type_size x (types_size x)

  module _ (bases : List ℕ) where
    -- word j of the record with entry e, as it is written
    unfoldable pub new_word : ℕ → ℕ → ℕ
    new_word e j =
        elim (eqb (role (e % 32) j) 1) [
          | true ↦ place_of b s start ids bases (word_of b s e j)
          | false ↦ elim (eqb (role (e % 32) j) 2) [ true ↦ get_or ids (word_of b s e j) 0 | false ↦ word_of b s e j ]
        ]

    unfoldable pub record_bytes : ℕ → ℕ → List ℕ
    record_bytes e zero = []
    record_bytes e (suc n) = record_bytes e n ++ word_bytes b.big_endian (new_word e n)

    -- what a part has of word j of type x, and of its first n words
    unfoldable pub word_part : Part → ℕ → ℕ → ℕ → List ℕ
    word_part Records x e j = word_bytes b.big_endian (new_word e j)
    word_part Names x e j = name_bytes b s start ids x e j

    unfoldable pub words_part : Part → ℕ → ℕ → ℕ → List ℕ
    words_part Records x e n = record_bytes e n
    words_part Names x e n = names_bytes b s start ids x e n

    unfoldable pub type_bytes : ℕ → List ℕ
    type_bytes x =
        elim (eqb (get_or ids x 0) 0) [ true ↦ [] | false ↦ record_bytes (entry_at b start x) (words_in b s (entry_at b start x)) ]

    unfoldable pub types_bytes : ℕ → List ℕ
    types_bytes zero = []
    types_bytes (suc x) = types_bytes x ++ type_bytes x

    -- what a part has of type x, and of the types before x
    unfoldable pub kept_bytes : Part → ℕ → List ℕ
    kept_bytes Records x = type_bytes x
    kept_bytes Names x = own_bytes b s start ids x

    unfoldable pub part_bytes : Part → ℕ → List ℕ
    part_bytes Records x = types_bytes x
    part_bytes Names x = news_bytes b s start ids x

  -- the whole section; types and strings: the lengths of the two
  unfoldable pub all_bytes : List ℕ → ℕ → ℕ → List ℕ
  all_bytes bases types strings =
      (head_bytes b.big_endian (get_or s 3 0) types strings ++ types_bytes bases (type_count b))
      ++ strings_bytes b s start ids (type_count b)

-- where the table t has the name of word j
unfoldable pub sought : TypeTable → List ℕ → List ℕ → ℕ → ℕ → Option ℕ
sought b s t e j = elim (eqb (role (e % 32) j) 1) [
  | false ↦ None
  | true ↦ elim (is_empty (str_at b s (word_of b s e j))) [ true ↦ None | false ↦ slot_place (found b s t (word_of b s e j)) ]
]

-- what is told of a name, which may be new and may have a place in the table; a new one's place is the length so far
unfoldable pub told_of : Bool → Option ℕ → Told
told_of true place = New
told_of false (Some p) = At p
told_of false None = Elsewhere

abbrev pub is_told_new : Told → Bool
is_told_new New = true
is_told_new (At p) = false
is_told_new Elsewhere = false

-- the place in the table, of a name that is not new
abbrev pub told_place : Told → Option ℕ
told_place New = None
told_place (At p) = Some p
told_place Elsewhere = None

-- the length written, and the output slice
pub data Wrote : Type 0 where
  wrote_of : Option ℕ → List ℕ → Wrote

module _ (b : TypeTable) (s start ids : List ℕ) where
  -- "23 when the output slice is short or the new section would pass 16,777,216 bytes; nothing is written": then no length; "the rest of
  -- the slice .. never altered"
  unfoldable pub fitting_written : List ℕ → ℕ → ℕ → List ℕ → Wrote
  fitting_written bases types strings out =
      elim (ltb 16777216 (24 + types + strings)) [
        | true ↦ wrote_of None out
        | false ↦ elim (ltb (length out) (24 + types + strings)) [
          | true ↦ wrote_of None out
          | false ↦ wrote_of (Some (24 + types + strings)) (all_bytes b s start ids bases types strings ++ drop (24 + types + strings) out)
        ]
      ]

  unfoldable pub kept_written : List ℕ → Wrote
  kept_written out =
      elim (ltb 16777216 (length s)) [
        | true ↦ wrote_of None out
        | false ↦ elim (ltb 16777216 (base_of b s start ids (type_count b))) [
          | true ↦ wrote_of None out
          | false ↦ elim (ltb 16777216 (types_size b s start ids (type_count b))) [
            | true ↦ wrote_of None out
            | false ↦ fitting_written (bases_to b s start ids zero_bases (type_count b)) (types_size b s start ids (type_count b))
                (base_of b s start ids (type_count b)) out
          ]
        ]
      ]

-- The names that are stored: "each distinct name is stored once, in order of first mention". b, s, start: the table, the section, its
-- index; ids: the new numbers, 0 for what is not kept.
use Rattle.std.specs.Prelude.{ℕ, zero, suc, ◌+◌, ◌%◌, Option, Some, None, Bool, true, false, not, List, length, get_or, set, replicate, eqb}
use Rattle.spec_c_dumper.specs.rules.Types.{is_empty}
use Rattle.spec_c_dumper.specs.rules.Names.{same_bytes}
use Rattle.spec_type_table.specs.declared.types.TypeTable.{TypeTable}
use Rattle.spec_type_table.specs.Names.{str_at}
use Rattle.btf_open_causes.specs.references.Followed.{type_count, entry_at}
use Rattle.session_cut_marks.specs.roles.Words.{role, words_in, word_of}

module _ (b : TypeTable) (s : List ℕ) where
  -- word j of the record with entry e is the offset of this name
  unfoldable pub is_name : ℕ → ℕ → ℕ → Bool
  is_name e off j = elim (eqb (role (e % 32) j) 1) [ true ↦ same_bytes (str_at b s (word_of b s e j)) (str_at b s off) | false ↦ false ]

  unfoldable pub or_name : ℕ → ℕ → ℕ → Bool → Bool
  or_name e off j found = elim found [ true ↦ true | false ↦ is_name e off j ]

  -- one of its first n words is
  unfoldable pub named_to : ℕ → ℕ → ℕ → Bool
  named_to e off zero = false
  named_to e off (suc n) = or_name e off n (named_to e off n)

  -- the first such word from word j on, k words at most
  unfoldable pub first_from : ℕ → ℕ → ℕ → ℕ → ℕ
  first_from e off j zero = j
  first_from e off j (suc k) = elim (is_name e off j) [ true ↦ j | false ↦ first_from e off (suc j) k ]

  -- of its first n words, if one is
  unfoldable pub first_name : ℕ → ℕ → ℕ → Option ℕ
  first_name e off n = elim (named_to e off n) [ true ↦ Some (first_from e off 0 n) | false ↦ None ]

  module _ (start ids : List ℕ) where
    -- type y is kept and mentions the name
    unfoldable pub mentions : ℕ → ℕ → Bool
    mentions off y =
        elim (eqb (get_or ids y 0) 0) [ true ↦ false | false ↦ named_to (entry_at b start y) off (words_in b s (entry_at b start y)) ]

    unfoldable pub or_mentions : ℕ → ℕ → Bool → Bool
    or_mentions off y found = elim found [ true ↦ true | false ↦ mentions off y ]

    -- one of the types before x does
    unfoldable pub mentioned_to : ℕ → ℕ → Bool
    mentioned_to off zero = false
    mentioned_to off (suc x) = or_mentions off x (mentioned_to off x)

    -- word j of type x mentions a name for the first time; the empty name stands first in the strings, without a mention
    unfoldable pub is_new : ℕ → ℕ → ℕ → Bool
    is_new x e j =
        elim (eqb (role (e % 32) j) 1) [
          | false ↦ false
          | true ↦ elim (is_empty (str_at b s (word_of b s e j))) [
            | true ↦ false
            | false ↦ elim (mentioned_to (word_of b s e j) x) [ true ↦ false | false ↦ not (named_to e (word_of b s e j) j) ]
          ]
        ]

    -- the bytes that it takes in the strings
    unfoldable pub new_size : ℕ → ℕ → ℕ → ℕ
    new_size x e j = elim (is_new x e j) [ true ↦ length (str_at b s (word_of b s e j)) + 1 | false ↦ 0 ]

    unfoldable pub new_sizes : ℕ → ℕ → ℕ → ℕ
    new_sizes x e zero = 0
    new_sizes x e (suc n) = new_sizes x e n + new_size x e n

    -- the bytes of all new names of type x, if it is kept
    unfoldable pub record_size : ℕ → ℕ
    record_size x =
        elim (eqb (get_or ids x 0) 0) [ true ↦ 0 | false ↦ new_sizes x (entry_at b start x) (words_in b s (entry_at b start x)) ]

    -- the length of the strings before type x: the leading 0, and the new names of the types before
    unfoldable pub base_of : ℕ → ℕ
    base_of zero = 1
    base_of (suc x) = base_of x + record_size x

    -- a list with the bases of the types before x, as words
    unfoldable pub bases_to : List ℕ → ℕ → List ℕ
    bases_to l zero = l
    bases_to l (suc x) = set (bases_to l x) x (base_of x % 4294967296)

    module _ (bases : List ℕ) where
      -- where the name stands, if type x is kept and mentions it, and is the first to do so; else 0
      unfoldable pub place_at : ℕ → ℕ → ℕ
      place_at off x =
          elim (mentions off x) [
            | false ↦ 0
            | true ↦ get_or bases x 0
                + new_sizes x (entry_at b start x) (first_from (entry_at b start x) off 0 (words_in b s (entry_at b start x)))
          ]

      -- of the types from x on, k of them
      unfoldable pub place_from : ℕ → ℕ → ℕ → ℕ
      place_from off x zero = 0
      place_from off x (suc k) = elim (place_at off x) [ zero ↦ place_from off (suc x) k | suc p ↦ suc p ]

      -- where a name stands in the new strings
      unfoldable pub place_of : ℕ → ℕ
      place_of off = elim (is_empty (str_at b s off)) [ true ↦ 0 | false ↦ place_from off 0 (type_count b) % 4294967296 ]

-- bases at the start: void and as many types as there may be
unfoldable pub zero_bases : List ℕ
zero_bases = replicate 262145 0

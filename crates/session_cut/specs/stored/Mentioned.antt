-- The names that the code of `session_cut_marks::mentioned` meets, in the order of mention, and the list that they are stored in. b, s,
-- start: the table, the section,
-- its index; ids: the new numbers, 0 for what is not kept.
use Rattle.std.specs.Prelude.{ℕ, zero, suc, ◌%◌, Bool, true, false, List, [], ◌∷◌, ◌++◌, get_or, eqb}
use Rattle.spec_c_dumper.specs.rules.Types.{Name}
use Rattle.spec_type_table.specs.declared.types.TypeTable.{TypeTable}
use Rattle.spec_type_table.specs.Names.{str_at}
use Rattle.btf_open_causes.specs.references.Followed.{entry_at}
use Rattle.spec_cut.specs.section.Strings.{add_name, first_names}
use Rattle.session_cut_marks.specs.roles.Words.{role, words_in, word_of}

-- "each distinct name is stored once": these names after the ones that are stored
unfoldable pub store : List Name → List Name → List Name
store ss [] = ss
store ss (n ∷ ns) = store (add_name ss n) ns

-- "After the leading 0"
abbrev pub stored : List Name → List Name
stored ns = store first_names ns

abbrev pub or_else : Bool → Bool → Bool
or_else p q = elim p [ true ↦ true | false ↦ q ]

module _ (b : TypeTable) (s : List ℕ) where
  -- the name of word j of the record with entry e, if it is one
  unfoldable pub word_name : ℕ → ℕ → List Name
  word_name e j = elim (eqb (role (e % 32) j) 1) [ true ↦ str_at b s (word_of b s e j) ∷ [] | false ↦ [] ]

  -- those of its first n words
  unfoldable pub names_to : ℕ → ℕ → List Name
  names_to e zero = []
  names_to e (suc n) = names_to e n ++ word_name e n

  module _ (start ids : List ℕ) where
    -- those of type x, if it is kept
    unfoldable pub kept_names : ℕ → List Name
    kept_names x = elim (eqb (get_or ids x 0) 0) [ true ↦ [] | false ↦ names_to (entry_at b start x) (words_in b s (entry_at b start x)) ]

    -- those of the types before x
    unfoldable pub names_before : ℕ → List Name
    names_before zero = []
    names_before (suc x) = names_before x ++ kept_names x

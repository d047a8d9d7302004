-- The new names as they are written.
use Rattle.std.specs.Prelude.{ℕ, zero, suc, true, false, List, [], ◌∷◌, ◌++◌, get_or, eqb}
use Rattle.spec_type_table.specs.declared.types.TypeTable.{TypeTable}
use Rattle.spec_type_table.specs.Names.{str_at}
use Rattle.btf_open_causes.specs.references.Followed.{entry_at}
use Rattle.session_cut_marks.specs.roles.Words.{words_in, word_of}
use Rattle.session_cut_marks.specs.mentioned.Names.{is_new}

module _ (b : TypeTable) (s start ids : List ℕ) where
  -- a new name, and its 0
  unfoldable pub name_bytes : ℕ → ℕ → ℕ → List ℕ
  name_bytes x e j = elim (is_new b s start ids x e j) [ true ↦ str_at b s (word_of b s e j) ++ (0 ∷ []) | false ↦ [] ]

  unfoldable pub names_bytes : ℕ → ℕ → ℕ → List ℕ
  names_bytes x e zero = []
  names_bytes x e (suc n) = names_bytes x e n ++ name_bytes x e n

  unfoldable pub own_bytes : ℕ → List ℕ
  own_bytes x = elim (eqb (get_or ids x 0) 0) [ true ↦ [] | false ↦ names_bytes x (entry_at b start x) (words_in b s (entry_at b start x)) ]

  unfoldable pub news_bytes : ℕ → List ℕ
  news_bytes zero = []
  news_bytes (suc x) = news_bytes x ++ own_bytes x

  -- "After the leading 0 each distinct name"
  unfoldable pub strings_bytes : ℕ → List ℕ
  strings_bytes x = (0 ∷ []) ++ news_bytes x

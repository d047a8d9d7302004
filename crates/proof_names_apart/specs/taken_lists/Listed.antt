-- The lists of taken numbers as lists: which holders stand on that of c, and what they take.
use Rattle.std.specs.Prelude.{ℕ, zero, suc, ◌-◌, true, false, List, [], ◌∷◌, eqb}
use Rattle.spec_bytes.specs.words.Words.{get_word}
use Rattle.spec_type_table.specs.declared.types.TypeTable.{TypeTable}
use Rattle.spec_type_table.specs.Cells.{class_p}
use Rattle.btf_open_names.specs.name_classes.Classes.{key_in}
use Rattle.btf_open_names.specs.filled_work.Takers.{suffix_on, any_suffix, name_in, base_from}

-- ---- any bases and numbers: `base` has the holder on whose list h stands, or 0; `num` the number that it takes
module _ (base num : ℕ → ℕ) where
  -- the numbers of the m holders from x on that stand on the list of c
  unfoldable pub numbers_on : ℕ → ℕ → ℕ → List ℕ
  numbers_on c x zero = []
  numbers_on c x (suc m) = elim (eqb (base x) c) [ true ↦ num x ∷ numbers_on c (suc x) m | false ↦ numbers_on c (suc x) m ]

-- ---- those of a work with classes: the first holder of its name that is another one with a suffix
module _ (b : TypeTable) (s w : List ℕ) (n : ℕ) where
  unfoldable pub base_of : ℕ → ℕ
  base_of h =
      elim (eqb (get_word w (class_p b.types h)) h) [
        | true ↦ elim (any_suffix (name_in (key_in b s w h))) [ true ↦ base_from (key_in b s w) h (n - 1) 1 | false ↦ 0 ]
        | false ↦ 0
      ]

  unfoldable pub number_of : ℕ → ℕ
  number_of h = suffix_on (key_in b s w (base_of h)) (key_in b s w h)

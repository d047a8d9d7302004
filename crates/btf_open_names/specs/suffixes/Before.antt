-- The hash of what stands before the suffix of a name: how its base is found, and no part of what is found.
use Rattle.std.specs.Prelude.{ℕ, suc, List, [], ◌∷◌, true, false, leb}
use Rattle.btf_open_names.specs.name_classes.Table.{step_of}
use Rattle.btf_open_names.specs.filled_work.Takers.{suffix_in}

-- how many bytes of a name stand before its suffix; all of them where it has none
unfoldable pub base_len : List ℕ → ℕ
base_len [] = 0
base_len (x ∷ l) = elim (leb 2 (suffix_in (x ∷ l))) [ true ↦ 0 | false ↦ suc (base_len l) ]

-- of the whole name where it has none
unfoldable pub hash_before : ℕ → List ℕ → ℕ
hash_before acc [] = acc
hash_before acc (x ∷ l) = elim (leb 2 (suffix_in (x ∷ l))) [ true ↦ acc | false ↦ hash_before (step_of acc x) l ]

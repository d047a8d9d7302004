-- Names in a section: up to their 0 byte.
use Rattle.std.specs.Prelude.{ℕ, zero, suc, List, [], ◌∷◌, drop}

-- the elements before the first 0
unfoldable pub up_to_zero : List ℕ → List ℕ
up_to_zero [] = []
up_to_zero (zero ∷ l) = []
up_to_zero (suc x ∷ l) = suc x ∷ up_to_zero l

-- 01, Section and type table, "name offset": the name that starts at a place, up to its 0 byte or the section's end
unfoldable pub name_at : List ℕ → ℕ → List ℕ
name_at s at = up_to_zero (drop at s)

-- Lists of taken numbers.
use Rattle.std.specs.Prelude.{ℕ, ◌≤◌, true, false, ltb}
use mathlib.Core.List.{List, [], ◌∷◌, Memᴰ}
use Rattle.spec_bytes.specs.words.Words.{one_more}

-- one more, if t is at most n
unfoldable pub one_if : ℕ → ℕ → ℕ → ℕ
one_if c t n = elim (ltb n t) [ true ↦ c | false ↦ one_more c ]

-- none of them stands twice
abbrev pub Distinct : List ℕ → Type 0
Distinct [] = Unit {0}
Distinct (t ∷ ts) = (Memᴰ t ts → ⊥) × Distinct ts

-- each number is one of a suffix
abbrev pub Suffixes : List ℕ → Type 0
Suffixes ts = (n : ℕ) → Memᴰ n ts → (2 ≤ n) × (n ≤ 4294967295)

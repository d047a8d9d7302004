-- Writers: what a function of the Rust prints, as a text, and what it does to the names on the way.
use Rattle.std.specs.Prelude.{ℕ, true, false, List, [], ◌++◌, map, ltb}
use Rattle.spec_bytes.specs.text.Text.{Text, whole, cut, join}

-- the refusals of documents 01 and 02 that a line can meet; 17 is decided where the text is put into the slice, 13 and 14 come
-- from ordering and emission
abbrev pub too_deep : ℕ
too_deep = 12

abbrev pub align_zero : ℕ
align_zero = 15

abbrev pub overflow : ℕ
overflow = 16

abbrev pub misplaced : ℕ
misplaced = 18

abbrev pub reserve_passed : ℕ
reserve_passed = 20

-- a value, or the refusal that asking for it meets
pub data Ask (A : Type 0) : Type 0 where
  got : A → Ask A
  no : ℕ → Ask A

unfoldable pub ask_then : {A B : Type 0} → Ask A → (A → Ask B) → Ask B
ask_then (got a) k = k a
ask_then (no c) k = no c

-- a number of 32 bits, or 16: where the Rust, built with overflow checks, panics
unfoldable pub checked : ℕ → Ask ℕ
checked n = elim (ltb n 4294967296) [ true ↦ got n | false ↦ no overflow ]

-- What writing comes to: the names after it, the text, and for each of its bytes the names that were held when the print of that byte
-- began. U is whatever keeps the names.
pub data Said (U : Type 0) : Type 0 where
  said : U → Text → List U → Said U

abbrev pub Writer : Type 0 → Type 0
Writer U = U → Said U

module _ {U : Type 0} where
  unfoldable pub said_text : Said U → Text
  said_text (said u t m) = t

  unfoldable pub said_names : Said U → U
  said_names (said u t m) = u

  unfoldable pub said_held : Said U → List U
  said_held (said u t m) = m

  -- one print: for each of its bytes the same names
  abbrev pub held_by : U → List ℕ → List U
  held_by u a = map (λ b. u) a

  unfoldable pub after : List ℕ → List U → Said U → Said U
  after a k (said u t m) = said u (join (whole a) t) (k ++ m)

  unfoldable pub next : Said U → Writer U → Said U
  next (said u (whole a) k) w = after a k (w u)
  next (said u (cut a c) k) w = said u (cut a c) k

  unfoldable pub put : List ℕ → Writer U
  put a u = said u (whole a) (held_by u a)

  unfoldable pub stop : ℕ → Writer U
  stop c u = said u (cut [] c) []

  abbrev pub nothing : Writer U
  nothing = put []

  -- what is written with a value, or its refusal
  unfoldable pub given : {A : Type 0} → Ask A → (A → Writer U) → Writer U
  given (got a) k = k a
  given (no c) k = stop c

-- one after the other; after a refusal comes nothing
infixr 20 ◌⨾◌
unfoldable pub ◌⨾◌ : {U : Type 0} → Writer U → Writer U → Writer U
(v ⨾ w) u = next (v u) w

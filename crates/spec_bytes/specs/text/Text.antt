-- Text that an emitter writes, and that may end in a refusal of document 01. Placed ties it to a lent slice and a place in it.
use Rattle.std.specs.Prelude.{ℕ, min, List, [], ◌∷◌, ◌++◌, replicate}
use Prim.Native.Char.{code}
use Prim.Native.String.{String, [] as empty, ◌∷◌ as ◌then◌}

-- the bytes of a quoted text
abbrev pub ascii : String → List ℕ
ascii empty = []
ascii (◌then◌ c s) = code c ∷ ascii s

-- what the `print!`s of the Rust come to: bytes; or bytes and then a refusal, by its number in document 01
pub data Text : Type 0 where
  whole : List ℕ → Text
  cut : List ℕ → ℕ → Text

-- one text after another: after a refusal comes nothing
unfoldable pub join : Text → Text → Text
join (whole a) (whole b) = whole (a ++ b)
join (whole a) (cut b c) = cut (a ++ b) c
join (cut a c) y = cut a c

-- what stands before the refusal, if there is one
unfoldable pub bytes : Text → List ℕ
bytes (whole a) = a
bytes (cut a c) = a

-- `pfx` of the Rust: a tab for each level, at most 12
unfoldable pub pfx : ℕ → List ℕ
pfx lvl = replicate (min lvl 12) 9

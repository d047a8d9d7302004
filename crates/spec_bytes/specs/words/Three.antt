-- Three words in a row.
use Rattle.std.specs.Prelude.{ℕ, ◌+◌, Bool, List, [], ◌∷◌}
use Rattle.spec_bytes.specs.words.Words.{word_at, word_in}

unfoldable pub three_at : List ℕ → ℕ → List ℕ
three_at b at = word_at b at ∷ word_at b (at + 4) ∷ word_at b (at + 8) ∷ []

-- in either order
unfoldable pub three_in : Bool → List ℕ → ℕ → List ℕ
three_in big b at = word_in big b at ∷ word_in big b (at + 4) ∷ word_in big b (at + 8) ∷ []

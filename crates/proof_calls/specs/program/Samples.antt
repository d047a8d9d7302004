-- Samples of document 01 as bytes, and what `run` leaves of them: statement only. proofs/Samples.antt has the proof.
use Rattle.std.specs.Prelude.{ℕ, ◌≡◌, List, [], ◌∷◌, length}
use Prim.Native.String.{String}
use Rattle.spec_bytes.specs.text.Text.{ascii}
use Rattle.spec_opening.specs.Samples.{node}
use Rattle.proof_calls.specs.program.Claims.{out}

-- 1 STRUCT s size 4 (a, type 1, bit 0): "a struct holding itself"
abbrev pub itself : List ℕ
itself =
    159 ∷ 235 ∷ 1 ∷ 0 ∷ 24 ∷ 0 ∷ 0 ∷ 0 ∷ 0 ∷ 0 ∷ 0 ∷ 0 ∷ 24 ∷ 0 ∷ 0 ∷ 0 ∷ 24 ∷ 0 ∷ 0 ∷ 0 ∷ 5 ∷ 0 ∷ 0 ∷ 0 ∷ 1 ∷ 0 ∷ 0 ∷ 0 ∷ 1 ∷ 0 ∷ 0 ∷ 4 ∷ 4
    ∷ 0 ∷ 0 ∷ 0 ∷ 3 ∷ 0 ∷ 0 ∷ 0 ∷ 1 ∷ 0 ∷ 0 ∷ 0 ∷ 0 ∷ 0 ∷ 0 ∷ 0 ∷ 0 ∷ 115 ∷ 0 ∷ 97 ∷ 0 ∷ []

-- this is printed of the section, whatever work and text hold at the start
abbrev pub Gives : List ℕ → String → Type 0
Gives s x = (work text : List ℕ) → length work ≡ 65536 → length text ≡ 65536 → out s work text ≡ ascii x

pub record Samples : Type 0 where
  pub of_node : Gives node "struct node {\n\tstruct node *next;\n\tint v;\n};\n\n"
  pub of_itself : Gives itself "refused 13\n"
  pub of_nothing : Gives [] "refused 3\n"

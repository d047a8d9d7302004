-- Headers that are the same but for the numbers of names: the lines of the same ids in the same order, each printed by the same steps, "its
-- order, layout"; a number may differ only behind a name that is taken at that place.
use Rattle.std.specs.Prelude.{ℕ, ◌≡◌, false, List, [], ◌∷◌}
use Rattle.spec_bytes.specs.text.Text.{ascii, whole}
use Rattle.spec_c_dumper.specs.rules.Writer.{said_text, Writer}
use Rattle.spec_c_dumper.specs.rules.Types.{Btf}
use Rattle.spec_c_dumper.specs.rules.Names.{Resolved, Naming, contains}
use Rattle.spec_c_dumper.specs.rules.Emit.{definition, forward}
use Rattle.spec_c_dumper.specs.needs.Lists.{Piece, defines, other}

-- names that get the numbers of a list, one after the other
unfoldable pub next_number : List ℕ → Resolved (List ℕ)
next_number [] = record { passes = false; version = 0; names = [] }
next_number (n ∷ l) = record { passes = false; version = n; names = l }

abbrev pub by_list : Naming (List ℕ)
by_list = record {
  type_version = λ space id name. next_number;
  value_version = λ id i name. next_number;
  leaving = λ held l. l;
}

-- s is what these steps print, with some numbers
pub record Written (w : Writer (List ℕ)) (s : List ℕ) : Type 0 where
  pub numbers : List ℕ
  pub is : said_text (w numbers) ≡ whole s

module _ (B : Btf) where
  -- of one id: its body, its other definition, or the line that comes once for it
  pub data SameLine : Piece → Piece → Type 0 where
    same_body : (x : ℕ) (s t : List ℕ) → Written (definition by_list B x (B.type_by_id x)) s
        → Written (definition by_list B x (B.type_by_id x)) t → SameLine (defines x s) (defines x t)
    same_leaf : (x : ℕ) (s t : List ℕ) → Written (definition by_list B x (B.type_by_id x)) s
        → Written (definition by_list B x (B.type_by_id x)) t → SameLine (other s) (other t)
    same_once : (x : ℕ) (s t : List ℕ) → Written (forward by_list B x (B.type_by_id x)) s
        → Written (forward by_list B x (B.type_by_id x)) t → SameLine (other s) (other t)

  -- one after the other
  pub data SameLines : List Piece → List Piece → Type 0 where
    no_line : SameLines [] []
    next_line : (p q : Piece) (l m : List Piece) → SameLine p q → SameLines l m → SameLines (p ∷ l) (q ∷ m)

  abbrev pub bytes_of : Piece → List ℕ
  bytes_of (defines x s) = s
  bytes_of (other s) = s

  -- how exact this is: lines in which no number stands are equal
  abbrev pub Exact : Type 0
  Exact = (p q : Piece) → SameLine p q → contains (ascii "___") (bytes_of p) ≡ false → contains (ascii "___") (bytes_of q) ≡ false
      → bytes_of p ≡ bytes_of q

-- Entries of a chain, and how they are stored: three words each.
use Rattle.std.specs.Prelude.{ℕ, ◌+◌, ◌*◌, true, false, List, [], ◌∷◌, length, set, ltb}
use Rattle.spec_c_dumper.specs.rules.Types.{Qualifier, volatile, const, restrict}
use Rattle.session_declaration_reader.specs.tokens.Looking.{Span}

-- an entry: its kind (1 base, 2 pointer, 3 array, 4 prototype, 5 qualifier, 6 base behind whose chain another parameter follows) and two
-- numbers
pub data Item : Type 0 where
  item : ℕ → ℕ → ℕ → Item

abbrev pub qual_code : Qualifier → ℕ
qual_code const = 1
qual_code volatile = 2
qual_code restrict = 3

abbrev pub qual_items : List Qualifier → List Item
qual_items [] = []
qual_items (q ∷ qs) = item 5 (qual_code q) 0 ∷ qual_items qs

abbrev pub first_from : List Span → ℕ
first_from [] = 0
first_from (w ∷ ws) = w.from

abbrev pub last_to : List Span → ℕ
last_to [] = 0
last_to (w ∷ []) = w.to
last_to (w ∷ v ∷ ws) = last_to (v ∷ ws)

-- entry n of the words t; from the 513th on none is stored
unfoldable pub put_item : List ℕ → ℕ → Item → List ℕ
put_item t n (item k x y) =
    elim (ltb n 512) [
      | true ↦ elim (ltb (n * 3 + 2) (length t)) [ true ↦ set (set (set t (n * 3) k) (n * 3 + 1) x) (n * 3 + 2) y | false ↦ t ]
      | false ↦ t
    ]

-- one entry more; 513 stands for all that are too many
unfoldable pub one_more : ℕ → ℕ
one_more n = elim (ltb n 512) [ true ↦ n + 1 | false ↦ 513 ]

-- how many entries there are, and the words that hold them
pub data Placed : Type 0 where
  placed : ℕ → List ℕ → Placed

-- entries stored in the words t from the n-th on
unfoldable pub placing : List ℕ → ℕ → List Item → Placed
placing t n [] = placed n t
placing t n (i ∷ is) = placing (put_item t n i) (one_more n) is

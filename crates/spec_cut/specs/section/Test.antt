-- A test that computes which ids are kept. proofs/Test.antt: it tells exactly those (`Tells`). It is the plain form, and slow.
use Rattle.std.specs.Prelude.{ℕ, zero, suc, Bool, false, not, ◌&&◌, ◌||◌, List, [], ◌∷◌, length, eqb}
use Rattle.spec_linux_btf.specs.Documentation.{Described}
use Rattle.spec_cut.specs.section.Kept.{followed_ids, type_of, is_decl_tag, third}

-- y is in a list
unfoldable pub is_in : ℕ → List ℕ → Bool
is_in y [] = false
is_in y (x ∷ xs) = eqb x y || is_in y xs

-- some references, each from a type to one that it follows, lead from x to y, and the types between have ids 1 to k (Warshall's way). E x
-- y: x follows y.
unfoldable pub leads : (ℕ → ℕ → Bool) → ℕ → ℕ → ℕ → Bool
leads E zero x y = E x y
leads E (suc k) x y = leads E k x y || (leads E k x (suc k) && leads E k (suc k) y)

-- y is one of the given ids, or some references lead there from one; n: the count of types
unfoldable pub reached_by : (ℕ → ℕ → Bool) → ℕ → List ℕ → ℕ → Bool
reached_by E n [] y = false
reached_by E n (g ∷ gs) y = (eqb g y || leads E n g y) || reached_by E n gs y

-- type x follows y
unfoldable pub follows : List Described → ℕ → ℕ → Bool
follows ts x y = is_in y (followed_ids (type_of ts x))

module _ (ts : List Described) (given : List ℕ) where
  -- "reachable from given ids through any followed reference"
  unfoldable pub is_reached : ℕ → Bool
  is_reached x = reached_by (follows ts) (length ts) given x

  -- "their declaration tags (no tags of tags or of void)"
  unfoldable pub is_its_tag : ℕ → Bool
  is_its_tag x =
      is_decl_tag (type_of ts x) && (is_reached (third (type_of ts x))
      && (not (eqb (third (type_of ts x)) 0) && not (is_decl_tag (type_of ts (third (type_of ts x))))))

  unfoldable pub is_kept : ℕ → Bool
  is_kept x = is_reached x || is_its_tag x

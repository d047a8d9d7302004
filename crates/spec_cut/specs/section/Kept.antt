-- Which types of a table are kept. ts: the types of the section, from id 1 on, as the Linux documentation describes them; given: the given
-- ids.
use Rattle.std.specs.Prelude.{ℕ, ◌≡◌, Bool, true, false, ◌↔◌}
use mathlib.Core.List.{List, Memᴰ}
use Rattle.spec_linux_btf.specs.Documentation.{int, ptr, array, struct, union, enum, fwd, typedef, volatile, const, restrict, func}
use Rattle.spec_linux_btf.specs.Documentation.{func_proto, var, datasec, float, decl_tag, type_tag, enum64, Described, described}
pub use Rattle.spec_opening.specs.Followed.{member_ids, param_ids, followed_ids, void_type, type_of}

-- "reachable from given ids through any followed reference"
pub data Reached (ts : List Described) (given : List ℕ) : ℕ → Type 0 where
  asked : {x : ℕ} → Memᴰ x given → Reached ts given x
  onward : {x y : ℕ} → Reached ts given x → Memᴰ y (followed_ids (type_of ts x)) → Reached ts given y

abbrev pub is_decl_tag : Described → Bool
is_decl_tag (described n f z (int v a b c d e)) = false
is_decl_tag (described n f z (ptr v)) = false
is_decl_tag (described n f z (array v t i k)) = false
is_decl_tag (described n f z (struct ms)) = false
is_decl_tag (described n f z (union ms)) = false
is_decl_tag (described n f z (enum es)) = false
is_decl_tag (described n f z (fwd v)) = false
is_decl_tag (described n f z (typedef v)) = false
is_decl_tag (described n f z (volatile v)) = false
is_decl_tag (described n f z (const v)) = false
is_decl_tag (described n f z (restrict v)) = false
is_decl_tag (described n f z (func v)) = false
is_decl_tag (described n f z (func_proto ps)) = false
is_decl_tag (described n f z (var v l)) = false
is_decl_tag (described n f z (datasec ss)) = false
is_decl_tag (described n f z (float v)) = false
is_decl_tag (described n f z (decl_tag v c)) = true
is_decl_tag (described n f z (type_tag v)) = false
is_decl_tag (described n f z (enum64 es)) = false

-- the third word: what a DECL_TAG is on
abbrev pub third : Described → ℕ
third (described n f z body) = z

-- "holds only the types reachable .., their declaration tags (no tags of tags or of void)"
pub data Kept (ts : List Described) (given : List ℕ) : ℕ → Type 0 where
  reached : {x : ℕ} → Reached ts given x → Kept ts given x
  its_tag : {x : ℕ} → is_decl_tag (type_of ts x) ≡ true → Reached ts given (third (type_of ts x)) → (third (type_of ts x) ≡ 0 → ⊥)
      → is_decl_tag (type_of ts (third (type_of ts x))) ≡ false → Kept ts given x

-- m tells which ids are kept
abbrev pub Tells : List Described → List ℕ → (ℕ → Bool) → Type 0
Tells ts given m = (x : ℕ) → (m x ≡ true) ↔ Kept ts given x

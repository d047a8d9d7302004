-- The ids that a described type follows.
use Rattle.std.specs.Prelude.{ℕ, zero, suc, List, [], ◌∷◌, get_or}
use Rattle.spec_linux_btf.specs.Documentation.{Member, member, Param, param, int, ptr, array, struct, union, enum, fwd, typedef, volatile}
use Rattle.spec_linux_btf.specs.Documentation.{const, restrict, func, func_proto, var, datasec, float, decl_tag, type_tag, enum64}
use Rattle.spec_linux_btf.specs.Documentation.{Described, described}

abbrev pub member_ids : List Member → List ℕ
member_ids [] = []
member_ids (member n t offset size ∷ ms) = t ∷ member_ids ms

abbrev pub param_ids : List Param → List ℕ
param_ids [] = []
param_ids (param n t ∷ ps) = t ∷ param_ids ps

-- "Followed ids are targets of pointers, qualifiers, type tags, typedefs, elements, members, parameters, results"; "An array's index type
-- is not followed"
abbrev pub followed_ids : Described → List ℕ
followed_ids (described n f z (int v a b c d e)) = []
followed_ids (described n f z (ptr v)) = z ∷ []
followed_ids (described n f z (array v t i k)) = t ∷ []
followed_ids (described n f z (struct ms)) = member_ids ms
followed_ids (described n f z (union ms)) = member_ids ms
followed_ids (described n f z (enum es)) = []
followed_ids (described n f z (fwd v)) = []
followed_ids (described n f z (typedef v)) = z ∷ []
followed_ids (described n f z (volatile v)) = z ∷ []
followed_ids (described n f z (const v)) = z ∷ []
followed_ids (described n f z (restrict v)) = z ∷ []
followed_ids (described n f z (func v)) = []
followed_ids (described n f z (func_proto ps)) = z ∷ param_ids ps
followed_ids (described n f z (var v l)) = []
followed_ids (described n f z (datasec ss)) = []
followed_ids (described n f z (float v)) = []
followed_ids (described n f z (decl_tag v c)) = []
followed_ids (described n f z (type_tag v)) = z ∷ []
followed_ids (described n f z (enum64 es)) = []

-- "Ids start at 1; 0 is void": void, and what lies past the table, is taken as a type that follows nothing
abbrev pub void_type : Described
void_type = described 0 0 0 (fwd 0)

abbrev pub type_of : List Described → ℕ → Described
type_of ts zero = void_type
type_of ts (suc i) = get_or ts i void_type

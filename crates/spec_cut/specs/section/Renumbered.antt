-- The numbers of the types that are kept, and a type with its stored ids and names replaced. m tells which ids are kept.
use Rattle.std.specs.Prelude.{ℕ, zero, suc, Bool, true, false, List, [], ◌∷◌}
use Rattle.spec_linux_btf.specs.Documentation.{Member, member, Enumerator, enumerator, Param, param, Secinfo, secinfo, Enumerator64}
use Rattle.spec_linux_btf.specs.Documentation.{enumerator64, int, ptr, array, struct, union, enum, fwd, typedef, volatile, const, restrict}
use Rattle.spec_linux_btf.specs.Documentation.{func, func_proto, var, datasec, float, decl_tag, type_tag, enum64, Described, described}

-- how many of the ids 1 to i are kept
unfoldable pub kept_to : (ℕ → Bool) → ℕ → ℕ
kept_to m zero = 0
kept_to m (suc i) = elim (m (suc i)) [ true ↦ suc (kept_to m i) | false ↦ kept_to m i ]

-- "ids renumbered in old order"; "A stored id that is not followed and whose type is not kept becomes 0". 0 is void.
unfoldable pub new_id : (ℕ → Bool) → ℕ → ℕ
new_id m zero = 0
new_id m (suc i) = elim (m (suc i)) [ true ↦ suc (kept_to m i) | false ↦ 0 ]

-- the types that are kept, in old order; the first of the list has id x
unfoldable pub kept_types : (ℕ → Bool) → ℕ → List Described → List Described
kept_types m x [] = []
kept_types m x (t ∷ ts) = elim (m x) [ true ↦ t ∷ kept_types m (suc x) ts | false ↦ kept_types m (suc x) ts ]

-- i: the new number of a stored id; o: the new offset of the name at an offset
module _ (i o : ℕ → ℕ) where
  abbrev pub new_members : List Member → List Member
  new_members [] = []
  new_members (member n t offset size ∷ ms) = member (o n) (i t) offset size ∷ new_members ms

  abbrev pub new_params : List Param → List Param
  new_params [] = []
  new_params (param n t ∷ ps) = param (o n) (i t) ∷ new_params ps

  abbrev pub new_values : List Enumerator → List Enumerator
  new_values [] = []
  new_values (enumerator n v ∷ vs) = enumerator (o n) v ∷ new_values vs

  abbrev pub new_values64 : List Enumerator64 → List Enumerator64
  new_values64 [] = []
  new_values64 (enumerator64 n lo hi ∷ vs) = enumerator64 (o n) lo hi ∷ new_values64 vs

  abbrev pub new_secinfos : List Secinfo → List Secinfo
  new_secinfos [] = []
  new_secinfos (secinfo t offset size ∷ ss) = secinfo (i t) offset size ∷ new_secinfos ss

  -- stored ids: the third word where it is `type` (PTR, TYPEDEF, the qualifiers, FUNC, FUNC_PROTO, VAR, DECL_TAG, TYPE_TAG), an ARRAY's
  -- `type` and `index_type`, and the `type` of members, parameters and variables. All else but names is as it was.
  unfoldable pub renamed : Described → Described
  renamed (described n f z (int v a b c d e)) = described (o n) f z (int v a b c d e)
  renamed (described n f z (ptr v)) = described (o n) f (i z) (ptr v)
  renamed (described n f z (array v t x k)) = described (o n) f z (array v (i t) (i x) k)
  renamed (described n f z (struct ms)) = described (o n) f z (struct (new_members ms))
  renamed (described n f z (union ms)) = described (o n) f z (union (new_members ms))
  renamed (described n f z (enum es)) = described (o n) f z (enum (new_values es))
  renamed (described n f z (fwd v)) = described (o n) f z (fwd v)
  renamed (described n f z (typedef v)) = described (o n) f (i z) (typedef v)
  renamed (described n f z (volatile v)) = described (o n) f (i z) (volatile v)
  renamed (described n f z (const v)) = described (o n) f (i z) (const v)
  renamed (described n f z (restrict v)) = described (o n) f (i z) (restrict v)
  renamed (described n f z (func v)) = described (o n) f (i z) (func v)
  renamed (described n f z (func_proto ps)) = described (o n) f (i z) (func_proto (new_params ps))
  renamed (described n f z (var v l)) = described (o n) f (i z) (var v l)
  renamed (described n f z (datasec ss)) = described (o n) f z (datasec (new_secinfos ss))
  renamed (described n f z (float v)) = described (o n) f z (float v)
  renamed (described n f z (decl_tag v c)) = described (o n) f (i z) (decl_tag v c)
  renamed (described n f z (type_tag v)) = described (o n) f (i z) (type_tag v)
  renamed (described n f z (enum64 es)) = described (o n) f z (enum64 (new_values64 es))

  abbrev pub renamed_all : List Described → List Described
  renamed_all [] = []
  renamed_all (t ∷ ts) = renamed t ∷ renamed_all ts

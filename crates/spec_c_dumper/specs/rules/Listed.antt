-- A table given as the list of its types, void first.
use Rattle.std.specs.Prelude.{ℕ, ◌+◌, Bool, true, false, List, [], ◌∷◌, length, get_or, eqb}
use Rattle.spec_c_dumper.specs.rules.Types.{BtfType, Void, Int, Ptr, Array, Composite, Enum, Enum64, Fwd, Typedef, Mod, Func, Var}
use Rattle.spec_c_dumper.specs.rules.Types.{Datasec, FuncProto, Float, DeclTag, TypeTag, Btf}

-- whether this is a DECL_TAG on id
unfoldable pub tags_id : ℕ → BtfType → Bool
tags_id id Void = false
tags_id id (Int n b) = false
tags_id id (Ptr t) = false
tags_id id (Array t k) = false
tags_id id (Composite s n z ms) = false
tags_id id (Enum s n z vs) = false
tags_id id (Enum64 s n z vs) = false
tags_id id (Fwd u n) = false
tags_id id (Typedef n t) = false
tags_id id (Mod q t) = false
tags_id id (Func n) = false
tags_id id (Var n) = false
tags_id id (Datasec n) = false
tags_id id (FuncProto r ps) = false
tags_id id (Float n z) = false
tags_id id (DeclTag a n t k) = eqb t id
tags_id id (TypeTag a n t) = false

-- the ids of the DECL_TAGs on id, in order, of types whose first has id i
unfoldable pub tags_from : ℕ → ℕ → List BtfType → List ℕ
tags_from id i [] = []
tags_from id i (t ∷ ts) = elim (tags_id id t) [ true ↦ i ∷ tags_from id (i + 1) ts | false ↦ tags_from id (i + 1) ts ]

-- pointer size, union_as_struct, placing mode, types
abbrev pub listed_in : ℕ → Bool → Bool → List BtfType → Btf
listed_in ptr_sz union_as_struct placing types = record {
  ptr_sz = ptr_sz;
  union_as_struct = union_as_struct;
  strong_arrays = false;
  placing = placing;
  type_cnt = length types;
  type_by_id = λ id. get_or types id Void;
  decl_tags = λ id. tags_from id 0 types;
}

-- pointer size, union_as_struct, types
abbrev pub listed : ℕ → Bool → List BtfType → Btf
listed ptr_sz union_as_struct types = listed_in ptr_sz union_as_struct false types

-- the same table, with the setting under which an array forgets pointers
abbrev pub with_strong_arrays : Btf → Btf
with_strong_arrays B = record {
  ptr_sz = B.ptr_sz;
  union_as_struct = B.union_as_struct;
  strong_arrays = true;
  placing = B.placing;
  type_cnt = B.type_cnt;
  type_by_id = B.type_by_id;
  decl_tags = B.decl_tags;
}

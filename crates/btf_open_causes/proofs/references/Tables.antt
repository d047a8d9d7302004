-- Tables of two records after void, for examples.
use Prim.Native.Nat.{ℕ, ◌+◌, ◌*◌}
use mathlib.Core.Bool.{false}
use mathlib.Core.List.{List, [], ◌∷◌, ◌++◌}
use Rattle.spec_type_table.specs.declared.types.TypeTable.{TypeTable}

abbrev pub three : TypeTable
three = record { ptr_sz = 8; union_as_struct = false; big_endian = false; strong_arrays = false; placing = false; types = 3; strs = 24 }

abbrev pub word : ℕ → List ℕ
word n = n ∷ 0 ∷ 0 ∷ 0 ∷ []

-- name, info, size or type
abbrev pub head : ℕ → ℕ → ℕ → List ℕ
head kind vlen type = word 0 ++ (vlen ∷ 0 ∷ 0 ∷ kind ∷ []) ++ word type

-- 1 TYPEDEF of 2; 2 FUNC_PROTO with a result and one parameter
abbrev pub called : ℕ → ℕ → List ℕ
called result param = head 8 0 2 ++ head 13 1 result ++ word 0 ++ word param

-- place * 32 + kind
abbrev pub places : List ℕ
places = 0 ∷ 8 ∷ (12 * 32 + 13) ∷ []

-- 1 STRUCT with one member, of type 2; 2 of a kind, with a target, and where it is an ARRAY with an element
abbrev pub held : ℕ → ℕ → List ℕ
held kind target = head 4 1 8 ++ word 0 ++ word 2 ++ word 0 ++ head kind 0 target ++ word target ++ word 0 ++ word 4

abbrev pub places_held : ℕ → List ℕ
places_held kind = 0 ∷ 4 ∷ (24 * 32 + kind) ∷ []

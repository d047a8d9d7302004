-- The kinds of a type by their numbers.
use Rattle.std.specs.Prelude.{ℕ, [], ◌∷◌, get_or}
use Rattle.spec_type_table.specs.declared.kind.Kind.{Kind}
use Rattle.spec_type_table.specs.declared.kind.Kind.TheVariants.{Void, Int, Ptr, Array, Struct, Union, Enum, Fwd, Typedef, Volatile}
use Rattle.spec_type_table.specs.declared.kind.Kind.TheVariants.{Const, Restrict, Func, FuncProto, Var, Datasec, Float, DeclTag, TypeTag}
use Rattle.spec_type_table.specs.declared.kind.Kind.TheVariants.{Enum64, Unknown}

-- 0 is void, and past 19 there is none
unfoldable pub kind_named : ℕ → Kind
kind_named n = get_or
    (Void
    ∷ Int
    ∷ Ptr
    ∷ Array
    ∷ Struct
    ∷ Union
    ∷ Enum
    ∷ Fwd
    ∷ Typedef
    ∷ Volatile
    ∷ Const
    ∷ Restrict
    ∷ Func
    ∷ FuncProto
    ∷ Var
    ∷ Datasec
    ∷ Float
    ∷ DeclTag
    ∷ TypeTag
    ∷ Enum64
    ∷ [])
    n
    Unknown

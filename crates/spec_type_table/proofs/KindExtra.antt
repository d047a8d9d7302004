-- What the kind of a record says of the bytes that follow it.
use Prim.Native.Nat.{ℕ, suc, ◌-◌, ◌*◌, ◌%◌, ◌≤◌}
use mathlib.Core.Path.{◌≡◌, refl, ap, sym, ◌∙◌}
use native.Mathlib.Omega.{arith}
use Rattle.std.specs.Prelude.{Option, Some, None}
use Rattle.spec_type_table.specs.declared.kind.Kind.{Kind}
use Rattle.spec_type_table.specs.declared.kind.Kind.TheVariants.{Void, Int, Ptr, Array, Struct, Union, Enum, Fwd, Typedef, Volatile, Const, Restrict, Func, FuncProto, Var, Datasec, Float, DeclTag, TypeTag, Enum64, Unknown}
use Rattle.spec_type_table.specs.Kinds.{kind_named}
use Rattle.spec_type_table.specs.Records.{extra_of}
use Rattle.spec_type_table.proofs.KindLaws.{by_kind}
use Rattle.spec_type_table.proofs.KindNames.{unknown}

-- of a record with n entries
abbrev pub extra_as : ℕ → Kind → Option ℕ
extra_as n Void = None
extra_as n Int = Some 4
extra_as n Ptr = Some 0
extra_as n Array = Some 12
extra_as n Struct = Some (12 * n)
extra_as n Union = Some (12 * n)
extra_as n Enum = Some (8 * n)
extra_as n Fwd = Some 0
extra_as n Typedef = Some 0
extra_as n Volatile = Some 0
extra_as n Const = Some 0
extra_as n Restrict = Some 0
extra_as n Func = Some 0
extra_as n FuncProto = Some (8 * n)
extra_as n Var = Some 4
extra_as n Datasec = Some (12 * n)
extra_as n Float = Some 0
extra_as n DeclTag = Some 4
extra_as n TypeTag = Some 0
extra_as n Enum64 = Some (12 * n)
extra_as n Unknown = None

extra_past : (k v : ℕ) → 20 ≤ k → None ≡ extra_of k v
unfolding extra_of
extra_past k v l = let e : k ≡ suc (suc (suc (suc (suc (suc (suc (suc (suc (suc (suc (suc (suc (suc (suc (suc (suc (suc (suc (suc (k - 20)))))))))))))))))))) = omega arith in rw e

extra_is : (k v : ℕ) → extra_as (v % 65536) (kind_named k) ≡ extra_of k v
unfolding kind_named extra_of
extra_is k v =
    by_kind
    (λ k. extra_as (v % 65536) (kind_named k) ≡ extra_of k v)
    refl refl refl refl refl refl refl refl refl refl refl refl refl refl refl refl refl refl refl refl
    (λ m l. ap (extra_as (v % 65536)) (sym (unknown m l)) ∙ extra_past m v l)
    k

-- x is the kind of the number k; in the arm of y
pub extra_by : (v : ℕ) (x y : Kind) → x ≡ y → (k : ℕ) → x ≡ kind_named k → extra_as (v % 65536) y ≡ extra_of k v
extra_by v x y p k f = ap (extra_as (v % 65536)) (sym p ∙ f) ∙ extra_is k v

-- What the kind of a record says of its number: an arm of a match on Kind::of is answered by these.
use Prim.Native.Nat.{ℕ, suc, ◌-◌, ◌≤◌}
use mathlib.Core.Path.{◌≡◌, refl, subst, sym, ◌∙◌}
use mathlib.Core.Logic.{◌⊎◌, inl, inr}
use native.Mathlib.Omega.{arith}
use Rattle.spec_type_table.specs.declared.kind.Kind.{Kind}
use Rattle.spec_type_table.specs.declared.kind.Kind.TheVariants.{Void, Int, Ptr, Array, Struct, Union, Enum, Fwd, Typedef, Volatile, Const, Restrict, Func, FuncProto, Var, Datasec, Float, DeclTag, TypeTag, Enum64, Unknown}
use Rattle.spec_type_table.specs.Kinds.{kind_named}
use Rattle.spec_type_table.proofs.KindLaws.{by_kind}

-- the numbers of a kind
abbrev pub IsKind : Kind → ℕ → Type 0
IsKind Void k = k ≡ 0
IsKind Int k = k ≡ 1
IsKind Ptr k = k ≡ 2
IsKind Array k = k ≡ 3
IsKind Struct k = k ≡ 4
IsKind Union k = k ≡ 5
IsKind Enum k = k ≡ 6
IsKind Fwd k = k ≡ 7
IsKind Typedef k = k ≡ 8
IsKind Volatile k = k ≡ 9
IsKind Const k = k ≡ 10
IsKind Restrict k = k ≡ 11
IsKind Func k = k ≡ 12
IsKind FuncProto k = k ≡ 13
IsKind Var k = k ≡ 14
IsKind Datasec k = k ≡ 15
IsKind Float k = k ≡ 16
IsKind DeclTag k = k ≡ 17
IsKind TypeTag k = k ≡ 18
IsKind Enum64 k = k ≡ 19
IsKind Unknown k = 20 ≤ k

pub unknown : (k : ℕ) → 20 ≤ k → Unknown ≡ kind_named k
unfolding kind_named
unknown k l = let e : k ≡ (suc (suc (suc (suc (suc (suc (suc (suc (suc (suc (suc (suc (suc (suc (suc (suc (suc (suc (suc (suc (k - 20))))))))))))))))))))) = omega arith in rw e

number : (k : ℕ) → IsKind (kind_named k) k
unfolding kind_named
number k =
    by_kind
    (λ k. IsKind (kind_named k) k)
    refl refl refl refl refl refl refl refl refl refl refl refl refl refl refl refl refl refl refl refl
    (λ m l. subst (λ (x : Kind). IsKind x m) (unknown m l) l)
    k

-- the kind of a number
pub named : (k : ℕ) (y : Kind) → IsKind y k → y ≡ kind_named k
unfolding kind_named
named k Void e = rw e
named k Int e = rw e
named k Ptr e = rw e
named k Array e = rw e
named k Struct e = rw e
named k Union e = rw e
named k Enum e = rw e
named k Fwd e = rw e
named k Typedef e = rw e
named k Volatile e = rw e
named k Const e = rw e
named k Restrict e = rw e
named k Func e = rw e
named k FuncProto e = rw e
named k Var e = rw e
named k Datasec e = rw e
named k Float e = rw e
named k DeclTag e = rw e
named k TypeTag e = rw e
named k Enum64 e = rw e
named k Unknown l = unknown k l

-- x is the kind that Kind::of returned for the number k
module _ (k : ℕ) (x : Kind) (e : x ≡ kind_named k) where
  -- in the arm of y: its number
  pub is : (y : Kind) → x ≡ y → IsKind y k
  is y p = subst (λ (z : Kind). IsKind z k) (sym e ∙ p) (number k)

  -- past the arm of y: another number
  pub isnt : (y : Kind) → (x ≡ y → ⊥) → IsKind y k → ⊥
  isnt y n p = n (e ∙ sym (named k y p))

-- every kind
pub kind_cases : (x : Kind) → (x ≡ Void) ⊎ ((x ≡ Int) ⊎ ((x ≡ Ptr) ⊎ ((x ≡ Array) ⊎ ((x ≡ Struct) ⊎ ((x ≡ Union) ⊎ ((x ≡ Enum) ⊎ ((x ≡ Fwd) ⊎ ((x ≡ Typedef) ⊎ ((x ≡ Volatile) ⊎ ((x ≡ Const) ⊎ ((x ≡ Restrict) ⊎ ((x ≡ Func) ⊎ ((x ≡ FuncProto) ⊎ ((x ≡ Var) ⊎ ((x ≡ Datasec) ⊎ ((x ≡ Float) ⊎ ((x ≡ DeclTag) ⊎ ((x ≡ TypeTag) ⊎ ((x ≡ Enum64) ⊎ (x ≡ Unknown))))))))))))))))))))
kind_cases Void = inl refl
kind_cases Int = inr (inl refl)
kind_cases Ptr = inr (inr (inl refl))
kind_cases Array = inr (inr (inr (inl refl)))
kind_cases Struct = inr (inr (inr (inr (inl refl))))
kind_cases Union = inr (inr (inr (inr (inr (inl refl)))))
kind_cases Enum = inr (inr (inr (inr (inr (inr (inl refl))))))
kind_cases Fwd = inr (inr (inr (inr (inr (inr (inr (inl refl)))))))
kind_cases Typedef = inr (inr (inr (inr (inr (inr (inr (inr (inl refl))))))))
kind_cases Volatile = inr (inr (inr (inr (inr (inr (inr (inr (inr (inl refl)))))))))
kind_cases Const = inr (inr (inr (inr (inr (inr (inr (inr (inr (inr (inl refl))))))))))
kind_cases Restrict = inr (inr (inr (inr (inr (inr (inr (inr (inr (inr (inr (inl refl)))))))))))
kind_cases Func = inr (inr (inr (inr (inr (inr (inr (inr (inr (inr (inr (inr (inl refl))))))))))))
kind_cases FuncProto = inr (inr (inr (inr (inr (inr (inr (inr (inr (inr (inr (inr (inr (inl refl)))))))))))))
kind_cases Var = inr (inr (inr (inr (inr (inr (inr (inr (inr (inr (inr (inr (inr (inr (inl refl))))))))))))))
kind_cases Datasec = inr (inr (inr (inr (inr (inr (inr (inr (inr (inr (inr (inr (inr (inr (inr (inl refl)))))))))))))))
kind_cases Float = inr (inr (inr (inr (inr (inr (inr (inr (inr (inr (inr (inr (inr (inr (inr (inr (inl refl))))))))))))))))
kind_cases DeclTag = inr (inr (inr (inr (inr (inr (inr (inr (inr (inr (inr (inr (inr (inr (inr (inr (inr (inl refl)))))))))))))))))
kind_cases TypeTag = inr (inr (inr (inr (inr (inr (inr (inr (inr (inr (inr (inr (inr (inr (inr (inr (inr (inr (inl refl))))))))))))))))))
kind_cases Enum64 = inr (inr (inr (inr (inr (inr (inr (inr (inr (inr (inr (inr (inr (inr (inr (inr (inr (inr (inr (inl refl)))))))))))))))))))
kind_cases Unknown = inr (inr (inr (inr (inr (inr (inr (inr (inr (inr (inr (inr (inr (inr (inr (inr (inr (inr (inr (inr refl)))))))))))))))))))

-- ---- each by itself
pub void_number : (k : ℕ) → kind_named k ≡ Void → k ≡ 0
void_number k p = is k _ refl Void p

pub int_number : (k : ℕ) → kind_named k ≡ Int → k ≡ 1
int_number k p = is k _ refl Int p

pub ptr_number : (k : ℕ) → kind_named k ≡ Ptr → k ≡ 2
ptr_number k p = is k _ refl Ptr p

pub array_number : (k : ℕ) → kind_named k ≡ Array → k ≡ 3
array_number k p = is k _ refl Array p

pub struct_number : (k : ℕ) → kind_named k ≡ Struct → k ≡ 4
struct_number k p = is k _ refl Struct p

pub union_number : (k : ℕ) → kind_named k ≡ Union → k ≡ 5
union_number k p = is k _ refl Union p

pub enum_number : (k : ℕ) → kind_named k ≡ Enum → k ≡ 6
enum_number k p = is k _ refl Enum p

pub fwd_number : (k : ℕ) → kind_named k ≡ Fwd → k ≡ 7
fwd_number k p = is k _ refl Fwd p

pub typedef_number : (k : ℕ) → kind_named k ≡ Typedef → k ≡ 8
typedef_number k p = is k _ refl Typedef p

pub volatile_number : (k : ℕ) → kind_named k ≡ Volatile → k ≡ 9
volatile_number k p = is k _ refl Volatile p

pub const_number : (k : ℕ) → kind_named k ≡ Const → k ≡ 10
const_number k p = is k _ refl Const p

pub restrict_number : (k : ℕ) → kind_named k ≡ Restrict → k ≡ 11
restrict_number k p = is k _ refl Restrict p

pub func_number : (k : ℕ) → kind_named k ≡ Func → k ≡ 12
func_number k p = is k _ refl Func p

pub func_proto_number : (k : ℕ) → kind_named k ≡ FuncProto → k ≡ 13
func_proto_number k p = is k _ refl FuncProto p

pub var_number : (k : ℕ) → kind_named k ≡ Var → k ≡ 14
var_number k p = is k _ refl Var p

pub datasec_number : (k : ℕ) → kind_named k ≡ Datasec → k ≡ 15
datasec_number k p = is k _ refl Datasec p

pub float_number : (k : ℕ) → kind_named k ≡ Float → k ≡ 16
float_number k p = is k _ refl Float p

pub decl_tag_number : (k : ℕ) → kind_named k ≡ DeclTag → k ≡ 17
decl_tag_number k p = is k _ refl DeclTag p

pub type_tag_number : (k : ℕ) → kind_named k ≡ TypeTag → k ≡ 18
type_tag_number k p = is k _ refl TypeTag p

pub enum64_number : (k : ℕ) → kind_named k ≡ Enum64 → k ≡ 19
enum64_number k p = is k _ refl Enum64 p

pub unknown_number : (k : ℕ) → kind_named k ≡ Unknown → 20 ≤ k
unknown_number k p = is k _ refl Unknown p

pub void_named : kind_named 0 ≡ Void
unfolding kind_named
void_named = refl

pub int_named : kind_named 1 ≡ Int
unfolding kind_named
int_named = refl

pub ptr_named : kind_named 2 ≡ Ptr
unfolding kind_named
ptr_named = refl

pub array_named : kind_named 3 ≡ Array
unfolding kind_named
array_named = refl

pub struct_named : kind_named 4 ≡ Struct
unfolding kind_named
struct_named = refl

pub union_named : kind_named 5 ≡ Union
unfolding kind_named
union_named = refl

pub enum_named : kind_named 6 ≡ Enum
unfolding kind_named
enum_named = refl

pub fwd_named : kind_named 7 ≡ Fwd
unfolding kind_named
fwd_named = refl

pub typedef_named : kind_named 8 ≡ Typedef
unfolding kind_named
typedef_named = refl

pub volatile_named : kind_named 9 ≡ Volatile
unfolding kind_named
volatile_named = refl

pub const_named : kind_named 10 ≡ Const
unfolding kind_named
const_named = refl

pub restrict_named : kind_named 11 ≡ Restrict
unfolding kind_named
restrict_named = refl

pub func_named : kind_named 12 ≡ Func
unfolding kind_named
func_named = refl

pub func_proto_named : kind_named 13 ≡ FuncProto
unfolding kind_named
func_proto_named = refl

pub var_named : kind_named 14 ≡ Var
unfolding kind_named
var_named = refl

pub datasec_named : kind_named 15 ≡ Datasec
unfolding kind_named
datasec_named = refl

pub float_named : kind_named 16 ≡ Float
unfolding kind_named
float_named = refl

pub decl_tag_named : kind_named 17 ≡ DeclTag
unfolding kind_named
decl_tag_named = refl

pub type_tag_named : kind_named 18 ≡ TypeTag
unfolding kind_named
type_tag_named = refl

pub enum64_named : kind_named 19 ≡ Enum64
unfolding kind_named
enum64_named = refl

-- all of them, for `grind`
pub ruleset kind_numbers = (void_number, int_number, ptr_number, array_number, struct_number, union_number, enum_number, fwd_number, typedef_number, volatile_number, const_number, restrict_number, func_number, func_proto_number, var_number, datasec_number, float_number, decl_tag_number, type_tag_number, enum64_number, unknown_number, void_named, int_named, ptr_named, array_named, struct_named, union_named, enum_named, fwd_named, typedef_named, volatile_named, const_named, restrict_named, func_named, func_proto_named, var_named, datasec_named, float_named, decl_tag_named, type_tag_named, enum64_named)

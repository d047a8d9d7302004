-- The type table as the Rust's `BtfType` (types.rs) has it, and as ordering and emission see it.
use Rattle.std.specs.Prelude.{ℕ, Bool, true, false, not, List, [], ◌∷◌}
use Rattle.spec_c_dumper.specs.rules.Order.{Node, ignored, plain, listed, through, ptr, tdef, proto, comp, Table}

-- bytes, without the 0 that ends them
abbrev pub Name : Type 0
Name = List ℕ

unfoldable pub is_empty : Name → Bool
is_empty [] = true
is_empty (b ∷ s) = false

pub record Member : Type 0 where
  pub name : Name
  pub type_id : ℕ
  pub bit_offset : ℕ
  pub bit_size : ℕ

pub record Param : Type 0 where
  pub name : Name
  pub type_id : ℕ

-- value: the bits, 32 or 64 of them, without sign
pub record Enumerator : Type 0 where
  pub name : Name
  pub value : ℕ

pub data Qualifier : Type 0 where
  volatile const restrict : Qualifier

-- Int: name, bits. Array: element, count. Composite: struct?, name, size, members. Enums: signed?, name, size, values.
-- Fwd: union?, name. DeclTag: attribute?, name, type, component index. TypeTag: attribute?, name, type.
pub data BtfType : Type 0 where
  Void : BtfType
  Int : Name → ℕ → BtfType
  Ptr : ℕ → BtfType
  Array : ℕ → ℕ → BtfType
  Composite : Bool → Name → ℕ → List Member → BtfType
  Enum Enum64 : Bool → Name → ℕ → List Enumerator → BtfType
  Fwd : Bool → Name → BtfType
  Typedef : Name → ℕ → BtfType
  Mod : Qualifier → ℕ → BtfType
  Func Var Datasec : Name → BtfType
  FuncProto : ℕ → List Param → BtfType
  Float : Name → ℕ → BtfType
  DeclTag : Bool → Name → ℕ → ℕ → BtfType
  TypeTag : Bool → Name → ℕ → BtfType

-- A section that was opened, with the settings chosen then: how many types there are (void counted), the type of each id,
-- and the DECL_TAGs on each id in the order of their ids (`decl_tags` of the Rust). strong-arrays: "a setting under which passing
-- an array forgets pointers passed before it"; the Rust is the rules with it off.
pub record Btf : Type 0 where
  pub ptr_sz : ℕ
  pub union_as_struct : Bool
  pub strong_arrays : Bool
  pub placing : Bool
  pub type_cnt : ℕ
  pub type_by_id : ℕ → BtfType
  pub decl_tags : ℕ → List ℕ

-- BtfType::name()
abbrev pub name_of : BtfType → Name
name_of Void = []
name_of (Int n b) = n
name_of (Ptr t) = []
name_of (Array t k) = []
name_of (Composite s n z ms) = n
name_of (Enum s n z vs) = n
name_of (Enum64 s n z vs) = n
name_of (Fwd u n) = n
name_of (Typedef n t) = n
name_of (Mod q t) = []
name_of (Func n) = n
name_of (Var n) = n
name_of (Datasec n) = n
name_of (FuncProto r ps) = []
name_of (Float n z) = n
name_of (DeclTag a n t k) = n
name_of (TypeTag a n t) = n

abbrev pub member_types : List Member → List ℕ
member_types [] = []
member_types (m ∷ ms) = m.type_id ∷ member_types ms

abbrev pub param_types : List Param → List ℕ
param_types [] = []
param_types (p ∷ ps) = p.type_id ∷ param_types ps

-- what ordering and emission see of a type
abbrev pub node_of : BtfType → Node
node_of Void = plain
node_of (Int n b) = plain
node_of (Ptr t) = ptr t
node_of (Array t k) = through true t
node_of (Composite s n z ms) = comp (member_types ms)
node_of (Enum s n z vs) = listed false
node_of (Enum64 s n z vs) = listed false
node_of (Fwd u n) = listed true
node_of (Typedef n t) = tdef t
node_of (Mod q t) = through false t
node_of (Func n) = ignored
node_of (Var n) = ignored
node_of (Datasec n) = ignored
node_of (FuncProto r ps) = proto (r ∷ param_types ps)
node_of (Float n z) = plain
node_of (DeclTag a n t k) = ignored
node_of (TypeTag a n t) = through false t

-- whether BtfType::name() is not empty
abbrev pub is_named : BtfType → Bool
is_named t = not (is_empty (name_of t))

-- the table that ordering and emission walk
abbrev pub table_of : Btf → Table
table_of B = record {
  count = B.type_cnt;
  node = λ x. node_of (B.type_by_id x);
  named = λ x. is_named (B.type_by_id x);
  strong_arrays = B.strong_arrays;
}

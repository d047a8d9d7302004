-- What the kind of a record says of its type: an arm of a match on Kind::of is answered by these.
use Prim.Native.Nat.{ℕ, ◌%◌}
use mathlib.Core.Path.{◌≡◌, refl}
use mathlib.Core.Bool.{true, false}
use mathlib.Core.List.{List}
use Rattle.spec_c_dumper.specs.rules.Types as R
use Rattle.spec_type_table.specs.declared.types.TypeTable.{TypeTable}
use Rattle.spec_type_table.specs.declared.types.BtfType.{BtfType as Record}
use Rattle.spec_type_table.specs.declared.kind.Kind.{Kind}
use Rattle.spec_type_table.specs.declared.kind.Kind.TheVariants.{Void, Int, Ptr, Array, Struct, Union, Enum, Fwd, Typedef, Volatile, Const, Restrict, Func, FuncProto, Var, Datasec, Float, DeclTag, TypeTag, Enum64, Unknown}
use Rattle.spec_type_table.specs.Kinds.{kind_named}
use Rattle.spec_type_table.specs.Records.{kind_of, flag_of}
use Rattle.spec_type_table.specs.Table.{record_name, extra_word, nelems_word, members_of, params_of, values_of, values64_of, type_of}
use Rattle.spec_type_table.proofs.KindLaws.{member_types_lem, param_types_lem, type_0, type_1, type_2, type_3, type_4, type_5, type_6, type_7, type_8, type_9, type_10, type_11, type_12, type_13, type_14, type_15, type_16, type_17, type_18, type_19, type_none}
use Rattle.spec_type_table.proofs.KindNames.{IsKind, is}

module _ (b : TypeTable) (s : List ℕ) (t : Record) where
  abbrev pub type_as : Kind → R.BtfType
  type_as Void = R.Void
  type_as Int = R.Int (record_name b s t) (extra_word b s t % 256)
  type_as Ptr = R.Ptr t.type_id
  type_as Array = R.Array (extra_word b s t) (nelems_word b s t)
  type_as Struct = R.Composite true (record_name b s t) t.type_id (members_of b s t)
  type_as Union = R.Composite false (record_name b s t) t.type_id (members_of b s t)
  type_as Enum = R.Enum (flag_of t.info) (record_name b s t) t.type_id (values_of b s t)
  type_as Fwd = R.Fwd (flag_of t.info) (record_name b s t)
  type_as Typedef = R.Typedef (record_name b s t) t.type_id
  type_as Volatile = R.Mod R.volatile t.type_id
  type_as Const = R.Mod R.const t.type_id
  type_as Restrict = R.Mod R.restrict t.type_id
  type_as Func = R.Func (record_name b s t)
  type_as FuncProto = R.FuncProto t.type_id (params_of b s t)
  type_as Var = R.Var (record_name b s t)
  type_as Datasec = R.Datasec (record_name b s t)
  type_as Float = R.Float (record_name b s t) t.type_id
  type_as DeclTag = R.DeclTag (flag_of t.info) (record_name b s t) t.type_id (extra_word b s t)
  type_as TypeTag = R.TypeTag (flag_of t.info) (record_name b s t) t.type_id
  type_as Enum64 = R.Enum64 (flag_of t.info) (record_name b s t) t.type_id (values64_of b s t)
  type_as Unknown = R.Void

  typed : (y : Kind) → IsKind y (kind_of t.info) → type_of b s t ≡ type_as y
  typed Void e = type_0 b s t e
  typed Int e = type_1 b s t e
  typed Ptr e = type_2 b s t e
  typed Array e = type_3 b s t e
  typed Struct e = type_4 b s t e
  typed Union e = type_5 b s t e
  typed Enum e = type_6 b s t e
  typed Fwd e = type_7 b s t e
  typed Typedef e = type_8 b s t e
  typed Volatile e = type_9 b s t e
  typed Const e = type_10 b s t e
  typed Restrict e = type_11 b s t e
  typed Func e = type_12 b s t e
  typed FuncProto e = type_13 b s t e
  typed Var e = type_14 b s t e
  typed Datasec e = type_15 b s t e
  typed Float e = type_16 b s t e
  typed DeclTag e = type_17 b s t e
  typed TypeTag e = type_18 b s t e
  typed Enum64 e = type_19 b s t e
  typed Unknown l = type_none b s t l

  -- in the arm of y
  pub type_is : (x : Kind) → x ≡ kind_named (kind_of t.info) → (y : Kind) → x ≡ y → type_of b s t ≡ type_as y
  type_is x e y p = typed y (is (kind_of t.info) x e y p)

  pub type_void : kind_named (kind_of t.info) ≡ Void → type_of b s t ≡ R.Void
  type_void p = type_is _ refl Void p

  pub type_int : kind_named (kind_of t.info) ≡ Int → type_of b s t ≡ R.Int (record_name b s t) (extra_word b s t % 256)
  type_int p = type_is _ refl Int p

  pub type_ptr : kind_named (kind_of t.info) ≡ Ptr → type_of b s t ≡ R.Ptr t.type_id
  type_ptr p = type_is _ refl Ptr p

  pub type_array : kind_named (kind_of t.info) ≡ Array → type_of b s t ≡ R.Array (extra_word b s t) (nelems_word b s t)
  type_array p = type_is _ refl Array p

  pub type_struct : kind_named (kind_of t.info) ≡ Struct → type_of b s t ≡ R.Composite true (record_name b s t) t.type_id (members_of b s t)
  type_struct p = type_is _ refl Struct p

  pub type_union : kind_named (kind_of t.info) ≡ Union → type_of b s t ≡ R.Composite false (record_name b s t) t.type_id (members_of b s t)
  type_union p = type_is _ refl Union p

  pub type_enum : kind_named (kind_of t.info) ≡ Enum → type_of b s t ≡ R.Enum (flag_of t.info) (record_name b s t) t.type_id (values_of b s t)
  type_enum p = type_is _ refl Enum p

  pub type_fwd : kind_named (kind_of t.info) ≡ Fwd → type_of b s t ≡ R.Fwd (flag_of t.info) (record_name b s t)
  type_fwd p = type_is _ refl Fwd p

  pub type_typedef : kind_named (kind_of t.info) ≡ Typedef → type_of b s t ≡ R.Typedef (record_name b s t) t.type_id
  type_typedef p = type_is _ refl Typedef p

  pub type_volatile : kind_named (kind_of t.info) ≡ Volatile → type_of b s t ≡ R.Mod R.volatile t.type_id
  type_volatile p = type_is _ refl Volatile p

  pub type_const : kind_named (kind_of t.info) ≡ Const → type_of b s t ≡ R.Mod R.const t.type_id
  type_const p = type_is _ refl Const p

  pub type_restrict : kind_named (kind_of t.info) ≡ Restrict → type_of b s t ≡ R.Mod R.restrict t.type_id
  type_restrict p = type_is _ refl Restrict p

  pub type_func : kind_named (kind_of t.info) ≡ Func → type_of b s t ≡ R.Func (record_name b s t)
  type_func p = type_is _ refl Func p

  pub type_func_proto : kind_named (kind_of t.info) ≡ FuncProto → type_of b s t ≡ R.FuncProto t.type_id (params_of b s t)
  type_func_proto p = type_is _ refl FuncProto p

  pub type_var : kind_named (kind_of t.info) ≡ Var → type_of b s t ≡ R.Var (record_name b s t)
  type_var p = type_is _ refl Var p

  pub type_datasec : kind_named (kind_of t.info) ≡ Datasec → type_of b s t ≡ R.Datasec (record_name b s t)
  type_datasec p = type_is _ refl Datasec p

  pub type_float : kind_named (kind_of t.info) ≡ Float → type_of b s t ≡ R.Float (record_name b s t) t.type_id
  type_float p = type_is _ refl Float p

  pub type_decl_tag : kind_named (kind_of t.info) ≡ DeclTag → type_of b s t ≡ R.DeclTag (flag_of t.info) (record_name b s t) t.type_id (extra_word b s t)
  type_decl_tag p = type_is _ refl DeclTag p

  pub type_type_tag : kind_named (kind_of t.info) ≡ TypeTag → type_of b s t ≡ R.TypeTag (flag_of t.info) (record_name b s t) t.type_id
  type_type_tag p = type_is _ refl TypeTag p

  pub type_enum64 : kind_named (kind_of t.info) ≡ Enum64 → type_of b s t ≡ R.Enum64 (flag_of t.info) (record_name b s t) t.type_id (values64_of b s t)
  type_enum64 p = type_is _ refl Enum64 p

  pub type_unknown : kind_named (kind_of t.info) ≡ Unknown → type_of b s t ≡ R.Void
  type_unknown p = type_is _ refl Unknown p

-- all of them, for `grind`
pub ruleset kind_types = (type_void, type_int, type_ptr, type_array, type_struct, type_union, type_enum, type_fwd, type_typedef, type_volatile, type_const, type_restrict, type_func, type_func_proto, type_var, type_datasec, type_float, type_decl_tag, type_type_tag, type_enum64, type_unknown)

-- and what a member list and a parameter list of a type are: for `node_of`
pub ruleset node_types = (kind_types, member_types_lem, param_types_lem)

-- A type as the Linux documentation describes it, and the same type as the Rust's `load_type` keeps it: which fields are kept under which
-- names. Offsets of names are replaced by the names.
use Rattle.std.specs.Prelude.{ℕ, zero, suc, ◌+◌, ◌*◌, Bool, true, false, List, [], ◌∷◌}
use Rattle.spec_linux_btf.specs.Documentation.{Member, member, Enumerator, enumerator, Param, param, Enumerator64, enumerator64, int, ptr}
use Rattle.spec_linux_btf.specs.Documentation.{array, struct, union, enum, fwd, typedef, volatile, const, restrict, func, func_proto, var}
use Rattle.spec_linux_btf.specs.Documentation.{datasec, float, decl_tag, type_tag, enum64, Described, described}
use Rattle.spec_c_dumper.specs.rules.Types as R
use Rattle.spec_c_dumper.specs.rules.Types.{BtfType, Int, Ptr, Array, Composite, Enum, Enum64, Fwd, Typedef, Mod, Func, Var, Datasec}
use Rattle.spec_c_dumper.specs.rules.Types.{FuncProto, Float, DeclTag, TypeTag}
use Rattle.spec_type_table.specs.Strings.{name_at}

-- kind_flag
abbrev pub is_set : ℕ → Bool
is_set zero = false
is_set (suc f) = true

-- strings: the place of the string area in the section s
module _ (strings : ℕ) (s : List ℕ) where
  -- the name at an offset of the string area
  abbrev str : ℕ → R.Name
  str off = name_at s (strings + off)

  abbrev pub kept_members : List Member → List R.Member
  kept_members [] = []
  kept_members (member n t offset size ∷ ms) = record { name = str n; type_id = t; bit_offset = offset; bit_size = size } ∷ kept_members ms

  abbrev pub kept_params : List Param → List R.Param
  kept_params [] = []
  kept_params (param n t ∷ ps) = record { name = str n; type_id = t } ∷ kept_params ps

  abbrev pub kept_values : List Enumerator → List R.Enumerator
  kept_values [] = []
  kept_values (enumerator n v ∷ vs) = record { name = str n; value = v } ∷ kept_values vs

  abbrev pub kept_values64 : List Enumerator64 → List R.Enumerator
  kept_values64 [] = []
  kept_values64 (enumerator64 n lo hi ∷ vs) = record { name = str n; value = hi * 4294967296 + lo } ∷ kept_values64 vs

  unfoldable pub kept : Described → BtfType
  kept (described n f z (int v bits x offset encoding y)) = Int (str n) bits
  kept (described n f z (ptr v)) = Ptr z
  kept (described n f z (array v t index nelems)) = Array t nelems
  kept (described n f z (struct ms)) = Composite true (str n) z (kept_members ms)
  kept (described n f z (union ms)) = Composite false (str n) z (kept_members ms)
  kept (described n f z (enum vs)) = Enum (is_set f) (str n) z (kept_values vs)
  kept (described n f z (fwd v)) = Fwd (is_set f) (str n)
  kept (described n f z (typedef v)) = Typedef (str n) z
  kept (described n f z (volatile v)) = Mod R.volatile z
  kept (described n f z (const v)) = Mod R.const z
  kept (described n f z (restrict v)) = Mod R.restrict z
  kept (described n f z (func v)) = Func (str n)
  kept (described n f z (func_proto ps)) = FuncProto z (kept_params ps)
  kept (described n f z (var v linkage)) = Var (str n)
  kept (described n f z (datasec es)) = Datasec (str n)
  kept (described n f z (float v)) = Float (str n) z
  kept (described n f z (decl_tag v idx)) = DeclTag (is_set f) (str n) z idx
  kept (described n f z (type_tag v)) = TypeTag (is_set f) (str n) z
  kept (described n f z (enum64 vs)) = Enum64 (is_set f) (str n) z (kept_values64 vs)

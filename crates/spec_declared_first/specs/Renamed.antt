-- That the mentions of a line are all the tags and typedef names in it: give the types that it does not mention any other names, and the
-- line is the same, byte for byte. Statement only; proofs/Renamed.antt has the proof.
use Rattle.std.specs.Prelude.{ℕ, ◌≡◌}
use mathlib.Core.List.{List, Memᴰ}
use Rattle.spec_c_dumper.specs.rules.Writer.{said_names}
use Rattle.spec_c_dumper.specs.rules.Types.{Name, is_empty, BtfType, Void, Int, Ptr, Array, Composite, Enum, Enum64, Fwd, Typedef, Mod}
use Rattle.spec_c_dumper.specs.rules.Types.{Func}
use Rattle.spec_c_dumper.specs.rules.Types.{Var, Datasec, FuncProto, Float, DeclTag, TypeTag, Btf}
use Rattle.spec_c_dumper.specs.rules.Names.{Naming, builtin}
use Rattle.spec_c_dumper.specs.rules.Emit.{definition, forward}
use Rattle.spec_declared_first.specs.Notes.{Mention, Asked, noting}

-- another tag or typedef name
abbrev pub rename_type : (Name → Name) → BtfType → BtfType
rename_type f Void = Void
rename_type f (Int n b) = Int n b
rename_type f (Ptr t) = Ptr t
rename_type f (Array t k) = Array t k
rename_type f (Composite s n z ms) = Composite s (f n) z ms
rename_type f (Enum s n z vs) = Enum s (f n) z vs
rename_type f (Enum64 s n z vs) = Enum64 s (f n) z vs
rename_type f (Fwd u n) = Fwd u (f n)
rename_type f (Typedef n t) = Typedef (f n) t
rename_type f (Mod q t) = Mod q t
rename_type f (Func n) = Func n
rename_type f (Var n) = Var n
rename_type f (Datasec n) = Datasec n
rename_type f (FuncProto r ps) = FuncProto r ps
rename_type f (Float n z) = Float n z
rename_type f (DeclTag a n t k) = DeclTag a n t k
rename_type f (TypeTag a n t) = TypeTag a n t

-- the table with other names, given by id
abbrev pub renamed : (ℕ → Name → Name) → Btf → Btf
renamed other B = record {
  ptr_sz = B.ptr_sz;
  union_as_struct = B.union_as_struct;
  strong_arrays = B.strong_arrays;
  placing = B.placing;
  type_cnt = B.type_cnt;
  type_by_id = λ id. rename_type (other id) (B.type_by_id id);
  decl_tags = B.decl_tags;
}

-- the nameless stay nameless, and the builtin name is neither given nor taken
pub record Renames (other : ℕ → Name → Name) : Type 0 where
  pub same_empty : (id : ℕ) (n : Name) → is_empty (other id n) ≡ is_empty n
  pub same_builtin : (id : ℕ) (n : Name) → builtin (other id n) ≡ builtin n

-- what is mentioned keeps its name
abbrev pub Spares : (ℕ → Name → Name) → List Mention → Type 0
Spares other ms = (m : Mention) → Memᴰ m ms → (n : Name) → other m.id n ≡ n

-- of every way of keeping names, every table and every line of it, whatever names were given before
pub record OnlyMentions {U : Type 0} (N : Naming U) (B : Btf) (other : ℕ → Name → Name) : Type 0 where
  pub forwards : (id : ℕ) (u : Asked U) → Spares other (said_names (forward (noting N) B id (B.type_by_id id) u)).mentions
      → forward (noting N) (renamed other B) id ((renamed other B).type_by_id id) u ≡ forward (noting N) B id (B.type_by_id id) u
  pub definitions : (id : ℕ) (u : Asked U) → Spares other (said_names (definition (noting N) B id (B.type_by_id id) u)).mentions
      → definition (noting N) (renamed other B) id ((renamed other B).type_by_id id) u ≡ definition (noting N) B id (B.type_by_id id) u

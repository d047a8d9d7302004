-- The table of a section that opening accepts, as the rules see it, and the DECL_TAGs of a table.
use Rattle.std.specs.Prelude.{ℕ, zero, suc, ◌/◌, ◌%◌, Bool, true, false, List, [], ◌∷◌, eqb}
use Rattle.spec_c_dumper.specs.rules.Types.{BtfType, Void, Int, Ptr, Array, Composite, Enum, Enum64, Fwd, Typedef, Mod, Func, Var, Datasec}
use Rattle.spec_c_dumper.specs.rules.Types.{FuncProto, Float, DeclTag, TypeTag, Btf as Rules}
use Rattle.spec_type_table.specs.declared.types.TypeTable.{TypeTable}
use Rattle.spec_type_table.specs.Table as btf
use Rattle.btf_open_causes.specs.header.Header as header
use Rattle.spec_opening.specs.Table.{types_of, enumerators_of}
use Rattle.spec_opening.specs.Opened.{work_of}
use Rattle.spec_c_dumper.specs.rules.Names.{Naming, Names, naming}
use Rattle.spec_c_dumper.specs.rules.Machine.{Machine, Sess}
use Rattle.spec_c_dumper.specs.needs.Lists.{Ls}
use Rattle.spec_c_dumper.specs.needs.Session.{Known, machine_by, opened_by, no_names}
use Rattle.proof_demands.specs.name_counts.Passed.{passed}
use Rattle.proof_demands.specs.name_counts.Indexed.{lists_in}

-- what the code knows of the section s after opening: pointer size, mode, order of bytes, the count of types, the place of the strings
abbrev pub header_of : ℕ → ℕ → List ℕ → TypeTable
header_of pointer modes s = header.btf_of s pointer modes (types_of s)

-- the table that the section and the work of n bytes spell after opening
abbrev pub opened_table : ℕ → ℕ → List ℕ → ℕ → Rules
opened_table pointer modes s n = btf.btf_of (header_of pointer modes s) s (work_of pointer modes s n)

-- the names of a session: those of the Rust; with bit 3 of the modes those over the lists of taken numbers that opening left
unfoldable pub names_in : ℕ → ℕ → List ℕ → ℕ → Naming Names
names_in pointer modes s n =
    elim (eqb (modes / 8 % 2) 1) [
      | true ↦ passed (lists_in (header_of pointer modes s) (enumerators_of s) s (work_of pointer modes s n))
      | false ↦ naming
    ]

-- the machine of the rules with these names, and what opening leaves
abbrev pub machine_in : ℕ → ℕ → List ℕ → ℕ → Machine (Ls (Known Names)) Names
machine_in pointer modes s n = machine_by (names_in pointer modes s n) (opened_table pointer modes s n)

abbrev pub opened_in : ℕ → ℕ → List ℕ → ℕ → Sess (Ls (Known Names))
opened_in pointer modes s n =
    opened_by (names_in pointer modes s n) (opened_table pointer modes s n) (no_names (opened_table pointer modes s n))

-- a DECL_TAG on type id
abbrev pub is_tag_for : ℕ → BtfType → Bool
is_tag_for id Void = false
is_tag_for id (Int n b) = false
is_tag_for id (Ptr t) = false
is_tag_for id (Array t k) = false
is_tag_for id (Composite s n z ms) = false
is_tag_for id (Enum s n z vs) = false
is_tag_for id (Enum64 s n z vs) = false
is_tag_for id (Fwd u n) = false
is_tag_for id (Typedef n t) = false
is_tag_for id (Mod q t) = false
is_tag_for id (Func n) = false
is_tag_for id (Var n) = false
is_tag_for id (Datasec n) = false
is_tag_for id (FuncProto r ps) = false
is_tag_for id (Float n z) = false
is_tag_for id (DeclTag a n t k) = eqb t id
is_tag_for id (TypeTag a n t) = false

-- the ids of the DECL_TAGs on type id among the n ids from x on, in rising order
unfoldable pub tag_ids : (ℕ → BtfType) → ℕ → ℕ → ℕ → List ℕ
tag_ids type id x zero = []
tag_ids type id x (suc n) = elim (is_tag_for id (type x)) [ true ↦ x ∷ tag_ids type id (suc x) n | false ↦ tag_ids type id (suc x) n ]

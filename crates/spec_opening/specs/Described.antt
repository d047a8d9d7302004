-- The type table that a section describes, with the settings of opening. Nothing here reads the work that opening fills.
use Rattle.std.specs.Prelude.{ℕ, ◌/◌, ◌%◌, List, ◌∷◌, map, length, get_or, eqb}
use Rattle.spec_linux_btf.specs.Section.{strings_at}
use Rattle.spec_c_dumper.specs.rules.Types.{BtfType, Void, Btf}
use Rattle.spec_c_dumper.specs.rules.Listed.{tags_from}
use Rattle.spec_type_table.specs.Documented.{kept}
use Rattle.spec_opening.specs.Types.{described_in}

-- "Ids start at 1; 0 is void": void, and then each type that the Linux page describes in the section, as the Rust's `load_type` keeps it
abbrev pub type_list : List ℕ → List BtfType
type_list s = Void ∷ map (kept (strings_at s) s) (described_in s)

-- the settings of opening: pointer size, and in the modes bit 0 union_as_struct, bit 1 arrays that forget pointers, bit 2 placing
abbrev pub table_in : ℕ → ℕ → List ℕ → Btf
table_in pointer modes s = record {
  ptr_sz = pointer;
  union_as_struct = eqb (modes % 2) 1;
  strong_arrays = eqb (modes / 2 % 2) 1;
  placing = eqb (modes / 4 % 2) 1;
  type_cnt = length (type_list s);
  type_by_id = λ id. get_or (type_list s) id Void;
  decl_tags = λ id. tags_from id 0 (type_list s);
}

-- A table read from described types, as a successful opening gives it.
use Rattle.std.specs.Prelude.{ℕ, suc, ◌<◌, ◌≡◌, List, length, get_or}
use Rattle.spec_linux_btf.specs.Documentation.{Described}
use Rattle.spec_c_dumper.specs.rules.Types.{Void, Btf as Rules}
use Rattle.spec_type_table.specs.declared.types.TypeTable.{TypeTable}
use Rattle.spec_type_table.specs.Documented.{kept}
use Rattle.proof_demands.specs.demands.Table.{tag_ids}
use Rattle.spec_cut.specs.section.Kept.{void_type}

-- B is the table of the types ts, whose names stand in the section s (b: what is known of its header)
pub record Reads (B : Rules) (b : TypeTable) (s : List ℕ) (ts : List Described) : Type 0 where
  pub count : B.type_cnt ≡ suc (length ts)
  pub zero_void : B.type_by_id 0 ≡ Void
  pub type : (i : ℕ) → i < length ts → B.type_by_id (suc i) ≡ kept b.strs s (get_or ts i void_type)
  pub tags : (id : ℕ) → id < suc (length ts) → B.decl_tags id ≡ tag_ids B.type_by_id id 1 (length ts)

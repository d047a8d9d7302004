-- The memory of alignments in the work, beside the names.
use Rattle.std.specs.Prelude.{ℕ, ◌+◌, ◌*◌, ◌/◌, ◌%◌, ◌<◌, ◌≤◌, ◌≡◌, List, length}
use Rattle.spec_bytes.specs.words.Words.{get_word}
use Rattle.spec_c_dumper.specs.rules.Types.{Void, table_of, Btf as Rules}
use Rattle.spec_type_table.specs.declared.types.TypeTable.{TypeTable}
use Rattle.spec_type_table.specs.Cells.{get_field}
use Rattle.spec_c_dumper.specs.needs.Needs.{WF}
use Rattle.spec_c_dumper.specs.alignment_once.Once.{Right, members_to, paid_to}
use Rattle.btf_layout.specs.remembered.Words.{work_keep}

-- two works with the same words, but for the memory's (15 of each type) and the count of visits (2 of void)
pub record Agree (w u : List ℕ) : Type 0 where
  pub long : length w ≡ length u
  pub words : (i : ℕ) → (i % 16 ≡ 15 → ⊥) → (i ≡ 2 → ⊥) → get_word w i ≡ get_word u i

-- the memory in the work is right, there is a word for each type, and word 2 of void has the visits that it took
pub record SoundMemory (B : Rules) (w : List ℕ) : Type 0 where
  pub right : Right (work_keep B.type_cnt B) B w
  pub roomy : B.type_cnt * 16 ≤ length w / 4
  pub count : get_field w 0 2 ≡ paid_to B ((work_keep B.type_cnt B).recall w) B.type_cnt

-- what is asked of a table, and holds of each that opening accepts
pub record Sane (b : TypeTable) (B : Rules) : Type 0 where
  pub some : 1 ≤ b.types
  pub small : B.ptr_sz ≤ 15
  pub wf : WF (table_of B)
  pub ends : (id : ℕ) → B.type_cnt ≤ id → B.type_by_id id ≡ Void
  pub few : B.type_cnt + members_to B B.type_cnt < 4294967296

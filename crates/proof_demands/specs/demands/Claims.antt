-- What a successful opening gives: statements only. proofs/Claims.antt has the proof, of every section that opening accepts.
use Rattle.std.specs.Prelude.{ℕ, suc, ◌-◌, ◌<◌, ◌≤◌, ◌≡◌, List, [], length, get_or}
use Rattle.spec_linux_btf.specs.Documentation.{Described}
use Rattle.spec_linux_btf.specs.Reading.{Bytes}
use Rattle.spec_c_dumper.specs.rules.Types.{Void, table_of}
use Rattle.spec_c_dumper.specs.rules.Machine.{Req, run}
use Rattle.spec_type_table.specs.Documented.{kept}
use Rattle.spec_type_table.specs.Table.{work_naming}
use Rattle.spec_opening.specs.Table.{described_in, types_of, enumerators_of}
use Rattle.spec_opening.specs.Opened.{work_of}
use Rattle.spec_c_dumper.specs.needs.Needs.{WF}
use Rattle.spec_c_dumper.specs.needs.Demand.{Demand3}
use Rattle.spec_c_dumper.specs.needs.Session.{machine_by, opened_by, dumped}
use Rattle.proof_demands.specs.name_counts.Indexed.{Indexed}
use Rattle.proof_demands.specs.name_counts.Alike.{Fresh}
use Rattle.proof_demands.specs.demands.Table.{header_of, opened_table, names_in, machine_in, opened_in, tag_ids}

module _ (pointer modes : ℕ) (s : List ℕ) (n : ℕ) where
  -- the table is the documented one: void, then each described type as the Rust's `load_type` keeps it
  pub record Documents : Type 0 where
    pub count : (opened_table pointer modes s n).type_cnt ≡ suc (length (described_in s))
    pub zero_void : (opened_table pointer modes s n).type_by_id 0 ≡ Void
    pub type : (id : ℕ) → 1 ≤ id → id < types_of s → (d : Described)
        → (opened_table pointer modes s n).type_by_id id ≡ kept (header_of pointer modes s).strs s (get_or (described_in s) (id - 1) d)
    pub past_void : (id : ℕ) → types_of s ≤ id → (opened_table pointer modes s n).type_by_id id ≡ Void
    pub tags : (id : ℕ) → id < types_of s
        → (opened_table pointer modes s n).decl_tags id ≡ tag_ids (opened_table pointer modes s n).type_by_id id 1 (types_of s - 1)

  -- and what the theorems about the rules ask of it holds, so they hold of it
  pub record Gives : Type 0 where
    pub documented : Bytes s → Documents
    pub well_formed : WF (table_of (opened_table pointer modes s n))
    pub indexed : Indexed (header_of pointer modes s) (enumerators_of s) s (work_of pointer modes s n)
    pub fresh : Fresh (header_of pointer modes s) (enumerators_of s) s (work_of pointer modes s n)
    -- demand 3, with the names of the session, and with the names in the work
    pub demand3 : (rs : List Req)
        → Demand3 (machine_in pointer modes s n) (table_of (opened_table pointer modes s n))
        (run (machine_in pointer modes s n) (table_of (opened_table pointer modes s n)) rs (opened_in pointer modes s n))
    pub work_demand3 : (rs : List Req)
        → Demand3 (machine_by (work_naming (header_of pointer modes s)) (opened_table pointer modes s n))
        (table_of (opened_table pointer modes s n))
        (run (machine_by (work_naming (header_of pointer modes s)) (opened_table pointer modes s n))
        (table_of (opened_table pointer modes s n)) rs
        (opened_by (work_naming (header_of pointer modes s)) (opened_table pointer modes s n) (work_of pointer modes s n)))
    -- the same numbers, lengths and text with the one and with the other
    pub same_text : (rs : List Req)
        → dumped (work_naming (header_of pointer modes s)) (opened_table pointer modes s n) [] rs
        (opened_by (work_naming (header_of pointer modes s)) (opened_table pointer modes s n) (work_of pointer modes s n))
        ≡ dumped (names_in pointer modes s n) (opened_table pointer modes s n) [] rs (opened_in pointer modes s n)

-- The table that a section and a work spell ends where its count says: past it there is nothing. Assumes nothing.
use Prim.Native.Nat.{ℕ}
use native.Mathlib.Decide.{ℕ_discrete}
use mathlib.Core.Path.{◌≡◌, refl, sym, ◌∙◌, ap}
use mathlib.Core.List.{List}
use Rattle.spec_type_table.specs.declared.types.TypeTable.{TypeTable}
use Rattle.spec_type_table.specs.Records.{void_record, record_by_id}
use Rattle.spec_type_table.specs.Table.{btf_of, type_of}
use Rattle.spec_type_table.proofs.Laws.{void_past, void_zero}
use Rattle.spec_c_dumper.specs.names_apart.Apart.{Ends}
use Rattle.proof_demands.proofs.demands.Described.{void_type}

pub table_ends : (b : TypeTable) (s w : List ℕ) → Ends (btf_of b s w)
unfolding btf_of
table_ends b s w id l = ap (type_of b s) (sym (past (ℕ_discrete id 0))) ∙ void_type b s
  where
    past : Dec (id ≡ 0) → void_record ≡ record_by_id b s w id
    past (yes e) = void_zero b s w id void_record e refl
    past (no n) = void_past b s w id void_record n l refl

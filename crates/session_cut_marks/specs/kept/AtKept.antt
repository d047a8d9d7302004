-- The definitions over a table, its section, the index and the new ids, at a value that has all four; and those over the first three, at
-- an index.
use Rattle.std.specs.Prelude.{ℕ, List}
use Rattle.spec_type_table.specs.declared.types.TypeTable.{TypeTable}
use Rattle.btf_open_causes.specs.declared.references.index.Index.{Index}
use Rattle.session_cut_marks.specs.declared.kept.Kept.{Kept}

abbrev pub at_kept : {A : Type 0} → (TypeTable → List ℕ → List ℕ → List ℕ → A) → Kept → A
at_kept f k = f k.index.table.head k.index.table.section.now k.index.start.now k.ids.now

abbrev pub at_index : {A : Type 0} → (TypeTable → List ℕ → List ℕ → A) → Index → A
at_index f i = f i.table.head i.table.section.now i.start.now

-- The types that members and parameters name.
use Rattle.std.specs.Prelude.{ℕ, ◌+◌, List}
use Rattle.spec_type_table.specs.declared.types.TypeTable.{TypeTable}
use Rattle.spec_type_table.specs.Records.{section_word, member_at, param_at}
use Rattle.spec_type_table.specs.Table.{from}
use Rattle.c_dumper_dependency_order.specs.declared.entries.Held.{Held}
use Rattle.c_dumper_dependency_order.specs.declared.entries.Held.TheVariants.{Members, Params}

abbrev pub count_of : Held → ℕ
count_of (Members es) = es.vlen
count_of (Params es) = es.vlen

abbrev pub entry_at : Held → ℕ → ℕ
entry_at (Members es) k = member_at es.at k
entry_at (Params es) k = param_at es.at k

abbrev pub entry_type : TypeTable → List ℕ → Held → ℕ → ℕ
entry_type b s h k = section_word b s (entry_at h k + 4)

-- those of all entries: member_ids, or param_ids
unfoldable pub entry_ids : TypeTable → List ℕ → Held → List ℕ
entry_ids b s h = from (entry_type b s h) 0 (count_of h)

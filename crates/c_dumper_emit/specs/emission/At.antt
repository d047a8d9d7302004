-- The definitions over a table, a lent list and the entries of listed ids, at an emission that has them.
use Rattle.std.specs.Prelude.{ℕ, ◌≡◌, List}
use Rattle.spec_c_dumper.specs.rules.Types.{Btf as Rules}
use Rattle.spec_c_dumper.specs.origins.Causes.{Entry}
use Rattle.spec_type_table.specs.declared.types.TypeTable.{TypeTable}
use Rattle.spec_type_table.specs.Records.{record_by_id}
use Rattle.spec_type_table.specs.Table.{btf_of}
use Rattle.btf_type_table.specs.declared.node.TypeRef.{TypeRef}
use Rattle.c_dumper_dependency_order.specs.leaders.Leaders.{leader_words, entry_in}
use Rattle.c_dumper_emit.specs.declared.emission.Emission.{Emission}
use Rattle.c_dumper_emit.specs.entries.Traced.{Lent, lent_list}

-- with the work and the list at that moment
abbrev pub lent_at : {A : Type 0} → (TypeTable → Rules → Lent → A) → Emission → List ℕ → List ℕ → A
lent_at f e w l = f e.table.head (btf_of e.table.head e.table.section.now w) (lent_list e.request.lists l)

-- and with the entry of each listed id
abbrev pub at_emission : {A : Type 0} → (TypeTable → Rules → Lent → (ℕ → Entry) → A) → Emission → List ℕ → List ℕ → A
at_emission f e w l = lent_at f e w l (entry_in e.request.req e.request.turn (leader_words e.leaders.now))

-- The record is that of the id. The work tells where it stands, which emission writes: so no type can promise it.
abbrev pub IsLoaded : Emission → List ℕ → TypeRef → Type 0
IsLoaded e w x = x.t ≡ record_by_id e.table.head e.table.section.now w x.id

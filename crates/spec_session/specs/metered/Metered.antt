-- A request, under a ceiling on the calls of ordering or without one: ordering over the marks in the work, and then emission of what it
-- listed.
use Rattle.std.specs.Prelude.{ℕ, false, List}
use Rattle.spec_c_dumper.specs.rules.Order.{Res, ok, refused}
use Rattle.spec_c_dumper.specs.rules.Machine.{Out}
use Rattle.spec_c_dumper.specs.rules.Types.{Btf as Rules, table_of}
use Rattle.spec_type_table.specs.declared.types.TypeTable.{TypeTable}
use Rattle.spec_type_table.specs.Table.{btf_of}
use Rattle.spec_c_dumper.specs.ceiling.Ceiling.{Limit, Told, told, halted, order_within, calls}
use Rattle.c_dumper_dependency_order.specs.order_state.Work.{Marks, work_store}
use Rattle.spec_session.specs.emission.Slices.{Slices, marks_in, with_marks, work_machine}
use Rattle.spec_c_dumper.specs.rules.Request.{listed_out}

-- ordering as a request starts it, over a work whose order list is empty
abbrev pub ordered_in : Rules → Limit → Marks → ℕ → ℕ → Told Marks
ordered_in B c m x made = order_within work_store c 512 (table_of B) m x false made

-- what ordering came to, with the text beside it; the calls made are told apart (`calls_made`)
unfoldable pub beside_of : Slices → Told Marks → Res Slices
beside_of m (told k strong made) = ok (with_marks m k) strong
beside_of m (halted c made) = refused c

unfoldable pub dumped_metered : TypeTable → Rules → Limit → Slices → ℕ → ℕ → Out Slices (Unit {0})
dumped_metered b B c m x made =
    listed_out (work_machine b B) (table_of B) ((work_machine b B).held m) (beside_of m (ordered_in B c (marks_in m) x made))

-- ---- a request under a ceiling, by the calls that the rules open

-- the calls of ordering that a request for an id opens
unfoldable pub calls_in : TypeTable → List ℕ → List ℕ → ℕ → ℕ
calls_in b s w id = calls work_store 512 (table_of (btf_of b s w)) (record { work = w; len = 0 }) id false

use Rattle.std.specs.Prelude.{Ok}
use Rattle.c_dumper_bodies.proofs.enumerators.Values.{ValuesLeft}
use Rattle.c_dumper_bodies.specs.enums.Widths.{value_text, enumerator_at}
use Rattle.spec_type_table.specs.Table.{btf_of}
use lib.ListN.{length}
use mathlib.Core.Path.{◌≡◌}
use Rattle.c_dumper_bodies.proofs.enums.emit_values.Given as goal

abbrev pub invariant-loop-k : goal.invariant-loop-k
invariant-loop-k l = (length l.text ≡ length l.initial.text) × (length l.work ≡ length l.initial.work) × ValuesLeft l.b.head (btf_of l.b.head l.b.section.now l.initial.work) (value_text l.wide l.is_signed) (enumerator_at l.wide l.b.head l.b.section.now l.values.at) l.fn.x.id l.lvl l.values.vlen l.first l.initial.text (Ok l.at) l.initial.work l.text (Ok l.p) l.work l.k

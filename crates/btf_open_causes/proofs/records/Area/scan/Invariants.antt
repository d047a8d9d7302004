use Rattle.spec_type_table.specs.Records.{section_word}
use lib.ListN.{length}
use mathlib.Core.Path.{◌≡◌}
use Rattle.btf_open_causes.proofs.records.Pass.{Turning}
use Rattle.btf_open_causes.proofs.records.Area.scan.Given as goal

abbrev pub invariant-loop-types : goal.invariant-loop-types
invariant-loop-types l = Turning (section_word l.self.table.head l.self.table.section.now) l.self.str_len l.from l.self.end l.initial.start l.at l.types l.enumerators l.start × (length l.start ≡ length l.initial.start)

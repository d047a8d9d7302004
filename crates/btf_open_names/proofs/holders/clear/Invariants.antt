use Rattle.std.proofs.Common.{◌≡◌, length}
use Rattle.spec_type_table.specs.Cells.{place_of}
use Rattle.btf_open_names.specs.name_classes.Classes.{fill, noughts}
use Rattle.btf_open_names.proofs.holders.clear.Given as goal

abbrev pub invariant-loop-k : goal.invariant-loop-k
invariant-loop-k l = (length l.work ≡ length l.initial.work) × (l.work ≡ fill (place_of l.types l.word.of_type l.word.of_value) noughts l.initial.work l.k)

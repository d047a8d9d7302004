-- Length and table of a value of the code.
use Rattle.session_cut_marks.specs.declared.interned.fill.Filler.{Filler}
use Rattle.session_cut_marks.specs.interned.Slots.{slot_words}
use Rattle.session_cut_marks.specs.interned.Filled.{Filled, filled_of}

abbrev pub filled_by : Filler → Filled
filled_by f = filled_of f.len (slot_words f.table.now)

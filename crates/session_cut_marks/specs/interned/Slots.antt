-- A hash table over the names, with open addressing. A slot is 0 where it is free; else the offset of a name, and its place times 2 ^ 32.
use Rattle.std.specs.Prelude.{ℕ, zero, suc, ◌+◌, ◌*◌, ◌/◌, ◌%◌, Option, Some, None, Bool, true, false, List, map, get_or, eqb}
use Rattle.spec_c_dumper.specs.rules.Names.{same_bytes}
use Rattle.spec_type_table.specs.declared.types.TypeTable.{TypeTable}
use Rattle.spec_type_table.specs.Names.{str_at}
use Rattle.btf_open_names.specs.name_classes.Table.{hash_from}
use Rattle.session_cut_marks.specs.declared.interned.slots.Slot.{Slot}

-- a slot of the code as one number
unfoldable pub slot_word : Slot → ℕ
slot_word v = v.off + v.place * 4294967296

unfoldable pub slot_words : List Slot → List ℕ
slot_words = map slot_word

module _ (b : TypeTable) (s t : List ℕ) where
  -- slot i is free, or has the name
  unfoldable pub stops : List ℕ → ℕ → Bool
  stops name i = elim (eqb (get_or t i 0) 0) [ true ↦ true | false ↦ same_bytes (str_at b s (get_or t i 0 % 4294967296)) name ]

  -- the first such slot from i on, among k; 262,144 where there is none
  unfoldable pub probe : List ℕ → ℕ → ℕ → ℕ
  probe name i zero = 262144
  probe name i (suc k) = elim (stops name i) [ true ↦ i | false ↦ probe name ((i + 1) % 262144) k ]

  -- the slot of the name at an offset; 262144 are looked at
  unfoldable pub slot_of : ℕ → ℕ
  slot_of off = probe (str_at b s off) (hash_from 0 (str_at b s off) % 262144) 262144

  -- what the table has for it, or 0
  unfoldable pub found : ℕ → ℕ
  found off = get_or t (slot_of off) 0

-- the place that a slot says, unless it is free
unfoldable pub slot_place : ℕ → Option ℕ
slot_place zero = None
slot_place (suc v) = Some (suc v / 4294967296)

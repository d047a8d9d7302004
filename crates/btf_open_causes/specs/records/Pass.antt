-- A pass over the records of the type area, by their places in the section: w reads a word, the records begin at `from` and end at
-- `end`, the string area has sl bytes. Cause 5 is `spec_linux_btf`' (sound_p, named_p, passes_p); here is what else the pass finds.
use Rattle.std.specs.Prelude.{ℕ, zero, suc, ◌+◌, ◌*◌, Bool, true, false, ◌&&◌, List, set, ltb, eqb, Option, Some, None}
use Rattle.spec_bytes.specs.words.Words.{pick}
use Rattle.spec_type_table.specs.declared.types.TypeTable.{TypeTable}
use Rattle.spec_type_table.specs.Records.{section_word, vlen_of, kind_of}
use Rattle.spec_linux_btf.specs.Reading.{Kind, none, INT, PTR, ARRAY, STRUCT, UNION, ENUM, FWD, TYPEDEF, VOLATILE, CONST, RESTRICT, FUNC}
use Rattle.spec_linux_btf.specs.Reading.{FUNC-PROTO, VAR, DATASEC, FLOAT, DECL-TAG, TYPE-TAG, ENUM64, kind}
use Rattle.spec_linux_btf.specs.Places.{size_p, kind_p, entries_named_p, sound_p, named_p, passes_p, place_from}
use Rattle.spec_linux_btf.specs.Section.{word_of}
use Rattle.btf_open_causes.specs.declared.records.Counts.{Counts}

-- how long an entry with a name is, of the kinds that have such
unfoldable pub entry_width : Kind → Option ℕ
entry_width none = None
entry_width INT = None
entry_width PTR = None
entry_width ARRAY = None
entry_width STRUCT = Some 12
entry_width UNION = Some 12
entry_width ENUM = Some 8
entry_width FWD = None
entry_width TYPEDEF = None
entry_width VOLATILE = None
entry_width CONST = None
entry_width RESTRICT = None
entry_width FUNC = None
entry_width FUNC-PROTO = Some 8
entry_width VAR = None
entry_width DATASEC = None
entry_width FLOAT = None
entry_width DECL-TAG = None
entry_width TYPE-TAG = None
entry_width ENUM64 = Some 12

-- named_p of a record whose info word is known
unfoldable pub named_by : ℕ → (ℕ → ℕ) → ℕ → ℕ → Bool
named_by sl w info p = ltb (w p) sl && entries_named_p sl (kind (kind_of info)) (vlen_of info) w (p + 12)

-- how many enumerators a record with this info word has: the entries of kinds 6 and 19
unfoldable pub enums_of : ℕ → ℕ
enums_of info = pick (eqb (kind_of info) 6) (vlen_of info) (pick (eqb (kind_of info) 19) (vlen_of info) 0)

module _ (w : ℕ → ℕ) where
  -- the place after the record at p, if that has not cause 5
  unfoldable pub next_p : ℕ → ℕ → ℕ → Option ℕ
  next_p sl end p = elim (sound_p w end p && named_p sl w p) [ true ↦ Some (p + size_p w p) | false ↦ None ]

  -- how many records, at most n, stand from p to the end
  unfoldable pub count_p : ℕ → ℕ → ℕ → ℕ
  count_p zero end p = 0
  count_p (suc n) end p = elim (ltb p end) [ true ↦ suc (count_p n end (p + size_p w p)) | false ↦ 0 ]

  -- and how many enumerators these have
  unfoldable pub enums_p : ℕ → ℕ → ℕ → ℕ
  enums_p zero end p = 0
  enums_p (suc n) end p = elim (ltb p end) [ true ↦ enums_of (w (p + 4)) + enums_p n end (p + size_p w p) | false ↦ 0 ]

  -- the index: entry x, from 1 on, is place * 32 + kind of record x, of which the first n are put into a list
  unfoldable pub index_p : ℕ → List ℕ → ℕ → List ℕ
  index_p from start zero = start
  index_p from start (suc n) = set (index_p from start n) (suc n) (place_from w from n * 32 + kind_p w (place_from w from n))

-- what a pass found: cause 5, or the count of types, void counted, that of enumerators, and the index
pub data Scan : Type 0 where
  unsound : Scan
  found : ℕ → ℕ → List ℕ → Scan

-- what the code's answer and the index at its exit say; after cause 5 nothing is said of the index
unfoldable pub scan_out : Option Counts → List ℕ → Scan
scan_out (Some r) start = found r.types r.enumerators start
scan_out None start = unsound

unfoldable pub scan_p : (ℕ → ℕ) → ℕ → ℕ → ℕ → List ℕ → Scan
scan_p w sl from end start =
    elim (passes_p sl 262144 w end from) [
      | true ↦ found (suc (count_p w 262144 end from)) (enums_p w 262144 end from) (index_p w from start (count_p w 262144 end from))
      | false ↦ unsound
    ]

-- the pass over the type area as the header has it; an area that ends past the largest section is none
unfoldable pub scan_section : TypeTable → List ℕ → List ℕ → Scan
scan_section b s start =
    elim (ltb 16777216 (word_of s 4 + word_of s 8 + word_of s 12)) [
      | true ↦ unsound
      | false ↦ scan_p (section_word b s) (word_of s 20) (word_of s 4 + word_of s 8) (word_of s 4 + word_of s 8 + word_of s 12) start
    ]

-- The lines of a body, and how the x86-64 System V ABI lays them out (psABI, "Aggregates and Unions" and "Bit-Fields"). Bits are counted
-- from the start of the body, "bit-fields are allocated from right to left", which is from the least significant bit on.
use Rattle.std.specs.Prelude.{ℕ, suc, ◌+◌, ◌*◌, ◌≡◌, Bool, true, false, not, ◌&&◌, List, [], ◌∷◌, eqb}
use Rattle.spec_bytes.specs.text.Text.{ascii, pfx}
use Rattle.spec_c_dumper.specs.rules.Writer.{Ask, got, no, ask_then, Writer, ◌⨾◌, put, nothing}
use Rattle.spec_c_dumper.specs.rules.Types.{Name, is_empty, Member, Btf}
use Rattle.spec_c_dumper.specs.rules.Layout.{larger, get_size_of, align_members, get_align_of, PadUnit, long, int, short, char, Pad}
use Rattle.spec_c_dumper.specs.rules.Layout.{bit_padding, end_of}
use Rattle.spec_c_dumper.specs.rules.Placing.{round_up, same_unit, tail_pads}
use Rattle.spec_c_dumper.specs.rules.Decl.{pads, bit_size_of, emit_decl_tags}

-- ---- the lines

-- a pad, which is an unnamed bit field, or a member
pub data Line : Type 0 where
  pad : Pad → Line
  field : Member → Line

unfoldable pub pad_lines : List Pad → List Line → List Line
pad_lines [] ls = ls
pad_lines (p ∷ ps) ls = pad p ∷ pad_lines ps ls

-- the lines that emit_members writes, in their order
module _ (B : Btf) (tail : ℕ → List Pad) (packed : Bool) where
  unfoldable pub body_lines : ℕ → List Member → Ask (List Line)
  body_lines offset [] = got (pad_lines (tail offset) [])
  body_lines offset (m ∷ ms) =
      ask_then (bit_padding B offset m packed)
      (λ ps. ask_then (end_of B m) (λ end. ask_then (body_lines end ms) (λ ls. got (pad_lines ps (field m ∷ ls)))))

-- their text; member i is the next
module _ {U : Type 0} (B : Btf) (decl : ℕ → Name → ℕ → Writer U) (id lvl : ℕ) where
  unfoldable pub write_lines : ℕ → List Line → Writer U
  write_lines i [] = nothing
  write_lines i (pad p ∷ ls) = put (pads lvl (p ∷ [])) ⨾ write_lines i ls
  write_lines i (field m ∷ ls) =
      put (ascii "\n") ⨾ put (pfx lvl) ⨾ decl m.type_id m.name lvl ⨾ put (bit_size_of m) ⨾ emit_decl_tags B id i ⨾ put (ascii ";")
      ⨾ write_lines (suc i) ls

-- ---- the layout, with the sizes and alignments of types in bytes

unfoldable pub unit_bits : PadUnit → ℕ
unit_bits long = 64
unit_bits int = 32
unit_bits short = 16
unit_bits char = 8

-- "bit-fields must be contained in a storage unit appropriate for its declared type", "bit-fields may share a storage unit with
-- other struct / union members": at the next bit, or where it would cross a unit at the next unit
unfoldable pub bit_field_at : ℕ → ℕ → ℕ → ℕ
bit_field_at unit width from = elim (same_unit unit from width) [ true ↦ from | false ↦ round_up from unit ]

module _ (size align : ℕ → ℕ) (packed : Bool) where
  -- "Each member is assigned to the lowest available offset with the appropriate alignment." Packed: alignment 1, bit fields bit by bit.
  unfoldable pub line_at : ℕ → Line → ℕ
  line_at from (pad p) = elim packed [ true ↦ from | false ↦ bit_field_at (unit_bits p.unit) p.width from ]
  line_at from (field m) =
      elim (eqb m.bit_size 0) [
        | true ↦ round_up from ((elim packed [ true ↦ 1 | false ↦ align m.type_id ]) * 8)
        | false ↦ elim packed [ true ↦ from | false ↦ bit_field_at (8 * size m.type_id) m.bit_size from ]
      ]

  unfoldable pub line_bits : Line → ℕ
  line_bits (pad p) = p.width
  line_bits (field m) = elim (eqb m.bit_size 0) [ true ↦ 8 * size m.type_id | false ↦ m.bit_size ]

  -- where the members of a struct sit, and where its last line ends
  unfoldable pub struct_places : ℕ → List Line → List ℕ
  struct_places from [] = []
  struct_places from (pad p ∷ ls) = struct_places (line_at from (pad p) + line_bits (pad p)) ls
  struct_places from (field m ∷ ls) = line_at from (field m) ∷ struct_places (line_at from (field m) + line_bits (field m)) ls

  unfoldable pub struct_end : ℕ → List Line → ℕ
  struct_end from [] = from
  struct_end from (l ∷ ls) = struct_end (line_at from l + line_bits l) ls

  -- all members of a union start at its own start, and the largest of its lines decides
  unfoldable pub union_places : List Line → List ℕ
  union_places [] = []
  union_places (pad p ∷ ls) = union_places ls
  union_places (field m ∷ ls) = 0 ∷ union_places ls

  unfoldable pub union_end : ℕ → List Line → ℕ
  union_end most [] = most
  union_end most (l ∷ ls) = union_end (larger most (line_bits l)) ls

-- "The size of any object is always a multiple of the object's alignment." In bits.
unfoldable pub whole_bits : ℕ → ℕ → ℕ
whole_bits end align = round_up end (8 * align)

-- "Structures and unions assume the alignment of their most strictly aligned component", "Unnamed bit-fields' types do not affect the
-- alignment of a structure or union": a pad has no part in it, nor has a bit field that the table has without a name
unfoldable pub raises : Member → Bool
raises m = elim (eqb m.bit_size 0) [ true ↦ true | false ↦ not (is_empty m.name) ]

unfoldable pub lines_align : (ℕ → ℕ) → ℕ → List Line → ℕ
lines_align align a [] = a
lines_align align a (pad p ∷ ls) = lines_align align a ls
lines_align align a (field m ∷ ls) = lines_align align (elim (raises m) [ true ↦ larger a (align m.type_id) | false ↦ a ]) ls

-- whether no bit field of the table is without a name
unfoldable pub all_raise : List Member → Bool
all_raise [] = true
all_raise (m ∷ ms) = raises m && all_raise ms

-- ---- "with the table's sizes and, in structs not packed, alignments"

unfoldable pub found_or_zero : Ask ℕ → ℕ
found_or_zero (got n) = n
found_or_zero (no c) = 0

unfoldable pub table_size : Btf → ℕ → ℕ
table_size B id = found_or_zero (get_size_of 512 B id)

unfoldable pub table_align : Btf → ℕ → ℕ
table_align B id = found_or_zero (get_align_of 512 B id)

-- get_align_of of the body's own id; 1 where it is packed
unfoldable pub body_align : Btf → Bool → List Member → ℕ
body_align B packed ms = elim packed [ true ↦ 1 | false ↦ found_or_zero (align_members (get_align_of 511 B) 1 ms) ]

-- where the table has the members
unfoldable pub bit_offsets : List Member → List ℕ
bit_offsets [] = []
bit_offsets (m ∷ ms) = m.bit_offset ∷ bit_offsets ms

-- whether a body is printed as a union
unfoldable pub as_union : Btf → Bool → Bool
as_union B is_struct = elim is_struct [ true ↦ false | false ↦ not B.union_as_struct ]

module _ (B : Btf) (is_struct packed : Bool) (ms : List Member) (ls : List Line) where
  -- where the members of the printed lines sit, and how many bits the whole has
  unfoldable pub places_of : List ℕ
  places_of = elim (as_union B is_struct) [
    | true ↦ union_places (table_size B) (table_align B) packed ls
    | false ↦ struct_places (table_size B) (table_align B) packed 0 ls
  ]

  unfoldable pub bits_of : ℕ
  bits_of =
      whole_bits
      (elim (as_union B is_struct) [
        | true ↦ union_end (table_size B) (table_align B) packed 0 ls
        | false ↦ struct_end (table_size B) (table_align B) packed 0 ls
      ])
      (body_align B packed ms)

-- A body whose printed lines are laid out as the table says: "every member then sits at its table offset and the whole has its table size".
pub record LaidOut (B : Btf) (is_struct : Bool) (sz : ℕ) (ms : List Member) (packed : Bool) : Type 0 where
  pub lines : List Line
  pub printed : body_lines B (tail_pads B.placing B.ptr_sz is_struct sz) packed 0 ms ≡ got lines
  pub offsets : places_of B is_struct packed ms lines ≡ bit_offsets ms
  pub size : bits_of B is_struct packed ms lines ≡ 8 * sz

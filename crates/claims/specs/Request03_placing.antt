-- Ask 3, gaps that land where the table says. Statement only; proofs/Placing.antt has the proof; it assumes nothing. "Only the old mode is
-- compared with the Rust"; that 12, 15, 16 and 18 "come before its first name or byte" is in the rules (spec_c_dumper, Decl:
-- `composite_def` asks for `body_packed` first).
use Rattle.std.specs.Prelude.{ℕ, ◌+◌, ◌-◌, ◌*◌, ◌/◌, ◌%◌, ◌<◌, ◌≤◌, ◌≡◌, Bool, true, false, List, [], ◌∷◌, ◌⊎◌, ◌↔◌}
use Rattle.spec_c_dumper.specs.rules.Writer.{got, no, checked, Writer}
use Rattle.spec_c_dumper.specs.rules.Types.{Name, Member, Btf}
use Rattle.spec_c_dumper.specs.rules.Names.{Naming, Names}
use Rattle.spec_c_dumper.specs.rules.Layout.{get_size_of, align_members, get_align_of, is_struct_packed, long, int, short, char, Pad}
use Rattle.spec_c_dumper.specs.rules.Layout.{gap_pads}
use Rattle.spec_c_dumper.specs.rules.Layout.{placed_pad, placed_gap, end_of}
use Rattle.spec_c_dumper.specs.rules.Decl.{emit_members}
use Rattle.spec_c_dumper.specs.rules.Placing.{round_up, Extent, reached, extent_of, no_extent, union_align, body_packed}
use Rattle.spec_c_dumper.specs.rules.SystemV.{Line, body_lines, write_lines, table_align, body_align, lines_align, all_raise, LaidOut}
use Rattle.spec_c_dumper.specs.names_apart.Naming.{Apart}

-- "The units are `long: 64` (pointer size 8 only), `int: 32`, `short: 16` and `char: ` with 8, 4, 2 or 1"
pub data IsUnit (ptr_sz : ℕ) : Pad → Type 0 where
  long_64 : ptr_sz ≡ 8 → IsUnit ptr_sz (record { unit = long; width = 64 })
  int_32 : IsUnit ptr_sz (record { unit = int; width = 32 })
  short_16 : IsUnit ptr_sz (record { unit = short; width = 16 })
  char_8 : IsUnit ptr_sz (record { unit = char; width = 8 })
  char_4 : IsUnit ptr_sz (record { unit = char; width = 4 })
  char_2 : IsUnit ptr_sz (record { unit = char; width = 2 })
  char_1 : IsUnit ptr_sz (record { unit = char; width = 1 })

-- a unit for the gap of so many bits from `start` on: "whose start is a multiple of its width and that still fits the gap"
pub record Suits (ptr_sz start gap : ℕ) (p : Pad) : Type 0 where
  pub is_unit : IsUnit ptr_sz p
  pub multiple : start % p.width ≡ 0
  pub fits : p.width ≤ gap

-- "the widest"
pub record Widest (ptr_sz start gap : ℕ) (p : Pad) : Type 0 where
  pub suits : Suits ptr_sz start gap p
  pub widest : (q : Pad) → Suits ptr_sz start gap q → q.width ≤ p.width

-- ---- 18

-- the members of a body after one that ends at `last`
module _ (B : Btf) (is_struct packed : Bool) where
  pub data Misplaced : ℕ → List Member → Type 0 where
    -- "a struct's member starts before the end of the one before it"
    early : (last : ℕ) (m : Member) (ms : List Member) → is_struct ≡ true → m.bit_offset < last → Misplaced last (m ∷ ms)
    -- "a plain member is off a byte"
    off_byte : (last : ℕ) (m : Member) (ms : List Member) → m.bit_size ≡ 0 → (m.bit_offset % 8 ≡ 0 → ⊥) → Misplaced last (m ∷ ms)
    -- "a bit field is wider than its type or crosses a unit of it in a struct not packed"
    wide : (last : ℕ) (m : Member) (ms : List Member) (size : ℕ) → (m.bit_size ≡ 0 → ⊥) → get_size_of 512 B m.type_id ≡ got size
        → 8 * size < m.bit_size → Misplaced last (m ∷ ms)
    crosses : (last : ℕ) (m : Member) (ms : List Member) (size : ℕ) → packed ≡ false → (m.bit_size ≡ 0 → ⊥)
        → get_size_of 512 B m.type_id ≡ got size
        → (m.bit_offset / (8 * size) ≡ (m.bit_offset + m.bit_size - 1) / (8 * size) → ⊥) → Misplaced last (m ∷ ms)
    -- "a union's member is not at bit 0"
    moved : (last : ℕ) (m : Member) (ms : List Member) → is_struct ≡ false → (m.bit_offset ≡ 0 → ⊥) → Misplaced last (m ∷ ms)
    later : (last : ℕ) (m : Member) (ms : List Member) (end : ℕ) → end_of B m ≡ got end → Misplaced (reached is_struct last end) ms
        → Misplaced last (m ∷ ms)

-- "the size is below the last end", "or a union's size is not its largest member rounded up to its alignment"
pub data WrongSize (a last bits : ℕ) : Bool → Type 0 where
  below : bits < last → WrongSize a last bits true
  other : (bits ≡ round_up last (8 * a) → ⊥) → WrongSize a last bits false

-- what is laid out is what is printed: the members of a body are written line by line
abbrev pub PrintsLines : Type 0 → Type 0
PrintsLines U =
    (N : Naming U) (B : Btf) (decl : ℕ → Name → ℕ → Writer U) (id lvl : ℕ) (tail : ℕ → List Pad) (packed : Bool) (offset : ℕ)
    (m : Member) (ms : List Member) (ls : List Line) → body_lines B tail packed offset (m ∷ ms) ≡ got ls
    → emit_members N B decl id tail lvl packed 0 offset (m ∷ ms) ≡ write_lines B decl id lvl 0 ls

pub record Request03 : Type 0 where
  -- "In it each pad takes the widest unit whose start is a multiple of its width and that still fits the gap"
  pub pads : (ptr_sz start gap : ℕ) → 0 < gap → Widest ptr_sz start gap (placed_pad ptr_sz start gap)
  -- "Which gaps before members are padded is as in the old mode"; a: the alignment of the member
  pub same_gaps : (ptr_sz start bit_size gap a : ℕ)
      → (gap_pads ptr_sz bit_size gap a ≡ []) ↔ (placed_gap ptr_sz start bit_size gap a ≡ [])
  -- "18 when [..]", where sizes, alignments and offsets are not refused themselves, which comes first: a is a union's alignment, x what the
  -- members reach, bits the size of the whole
  pub eighteen : (B : Btf) → B.placing ≡ true → (is_struct : Bool) (sz : ℕ) (ms : List Member) (a : ℕ) (packed : Bool) (x : Extent)
      (bits : ℕ) → union_align B is_struct ms ≡ got a → is_struct_packed B is_struct sz ms ≡ got packed
      → extent_of B is_struct packed no_extent ms ≡ got x → checked (8 * sz) ≡ got bits
      → (body_packed B is_struct sz ms ≡ no 18) ↔ (Misplaced B is_struct packed 0 ms ⊎ WrongSize a x.last bits is_struct)
  -- "Without `union_as_struct`, laid out at pointer size 8 by the x86-64 System V rules for structs and bit fields, with the table's sizes
  -- and, in structs not packed, alignments, every member then sits at its table offset and the whole has its table size": of every body
  -- that is not refused; "a tail pad fills the struct to its size" is among its lines
  pub laid_out : (B : Btf) → B.placing ≡ true → B.union_as_struct ≡ false
      → (is_struct : Bool) (sz : ℕ) (ms : List Member) (packed : Bool) → body_packed B is_struct sz ms ≡ got packed
      → LaidOut B is_struct sz ms packed
  -- and the alignment that these rules find from the lines is that of the table, where no bit field is without a name
  pub aligned : (B : Btf) (is_struct : Bool) (sz : ℕ) (ms : List Member) (a : ℕ) → align_members (get_align_of 511 B) 1 ms ≡ got a
      → all_raise ms ≡ true → (l : LaidOut B is_struct sz ms false) → lines_align (table_align B) 1 l.lines ≡ body_align B false ms
  -- with the names of the Rust, and with names that cannot collide
  pub printed : PrintsLines Names
  pub printed_apart : PrintsLines Apart

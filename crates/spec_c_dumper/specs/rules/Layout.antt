-- Sizes and alignments (types.rs), the packed test and the pads (c_dumper.rs).
use Rattle.std.specs.Prelude.{ℕ, zero, suc, ◌+◌, ◌-◌, ◌*◌, ◌/◌, ◌%◌, Bool, true, false, ◌&&◌, List, [], ◌∷◌, ltb, leb, eqb}
use Rattle.spec_c_dumper.specs.rules.Writer.{Ask, got, no, ask_then, checked, too_deep, align_zero}
use Rattle.spec_c_dumper.specs.rules.Types.{Member, BtfType, Void, Int, Ptr, Array, Composite, Enum, Enum64, Fwd, Typedef, Mod, Func}
use Rattle.spec_c_dumper.specs.rules.Types.{Var, Datasec, FuncProto, Float, DeclTag, TypeTag, Btf}

unfoldable pub larger : ℕ → ℕ → ℕ
larger a b = elim (leb a b) [ true ↦ b | false ↦ a ]

unfoldable pub smaller : ℕ → ℕ → ℕ
smaller a b = elim (leb a b) [ true ↦ a | false ↦ b ]

-- whole bytes: div_ceil(8)
unfoldable pub octets : ℕ → ℕ
octets bits = (bits + 7) / 8

-- get_size_of, given itself for the types below
module _ (B : Btf) (size : ℕ → Ask ℕ) where
  unfoldable pub size_of : BtfType → Ask ℕ
  size_of Void = got 0
  size_of (Int n bits) = got (octets bits)
  size_of (Ptr t) = got B.ptr_sz
  size_of (Array t k) = ask_then (size t) (λ s. checked (k * s))
  size_of (Composite s n sz ms) = got sz
  size_of (Enum s n sz vs) = got sz
  size_of (Enum64 s n sz vs) = got sz
  size_of (Fwd u n) = got 0
  size_of (Typedef n t) = size t
  size_of (Mod q t) = size t
  size_of (Func n) = got 0
  size_of (Var n) = got 0
  size_of (Datasec n) = got 0
  size_of (FuncProto r ps) = got 0
  size_of (Float n sz) = got sz
  size_of (DeclTag a n t k) = size t
  size_of (TypeTag a n t) = size t

-- get_size_of; 12 where more calls are open than `left` allows
unfoldable pub get_size_of : ℕ → Btf → ℕ → Ask ℕ
get_size_of zero B id = no too_deep
get_size_of (suc left) B id = size_of B (get_size_of left B) (B.type_by_id id)

-- the largest of the members' alignments and a
unfoldable pub align_members : (ℕ → Ask ℕ) → ℕ → List Member → Ask ℕ
align_members align a [] = got a
align_members align a (m ∷ ms) = ask_then (align m.type_id) (λ b. align_members align (larger a b) ms)

-- get_align_of, given itself for the types below
module _ (B : Btf) (align : ℕ → Ask ℕ) where
  unfoldable pub align_of : BtfType → Ask ℕ
  align_of Void = got 0
  align_of (Int n bits) = got (smaller B.ptr_sz (octets bits))
  align_of (Ptr t) = got B.ptr_sz
  align_of (Array t k) = align t
  align_of (Composite s n sz ms) = align_members align 1 ms
  align_of (Enum s n sz vs) = got (smaller B.ptr_sz sz)
  align_of (Enum64 s n sz vs) = got (smaller B.ptr_sz sz)
  align_of (Fwd u n) = got 0
  align_of (Typedef n t) = align t
  align_of (Mod q t) = align t
  align_of (Func n) = got 0
  align_of (Var n) = got 0
  align_of (Datasec n) = got 0
  align_of (FuncProto r ps) = got 0
  align_of (Float n sz) = got (smaller B.ptr_sz sz)
  align_of (DeclTag a n t k) = got 0
  align_of (TypeTag a n t) = align t

unfoldable pub get_align_of : ℕ → Btf → ℕ → Ask ℕ
get_align_of zero B id = no too_deep
get_align_of (suc left) B id = align_of B (get_align_of left B) (B.type_by_id id)

-- a plain member with this alignment: off it the struct is packed, on it the rest decides
unfoldable pub off_align : ℕ → ℕ → Ask Bool → Ask Bool
off_align a bit_offset rest =
    elim (eqb a 0) [
      | true ↦ no align_zero
      | false ↦ elim (eqb (bit_offset % (a * 8)) 0) [ true ↦ rest | false ↦ got true ]
    ]

unfoldable pub members_packed : Btf → List Member → Ask Bool
members_packed B [] = got false
members_packed B (m ∷ ms) =
    elim (eqb m.bit_size 0) [
      | true ↦ ask_then (get_align_of 512 B m.type_id) (λ a. off_align a m.bit_offset (members_packed B ms))
      | false ↦ members_packed B ms
    ]

-- is_struct_packed(id, t): get_align_of(id) is that of t's members, one call deeper
unfoldable pub is_struct_packed : Btf → Bool → ℕ → List Member → Ask Bool
is_struct_packed B is_struct sz ms =
    elim is_struct [
      | false ↦ got false
      | true ↦ ask_then (align_members (get_align_of 511 B) 1 ms)
          (λ a. elim (eqb (sz % a) 0) [ true ↦ members_packed B ms | false ↦ got true ])
    ]

-- emit_bit_padding: the pads of a gap, each a unit and a width
pub data PadUnit : Type 0 where
  long int short char : PadUnit

pub record Pad : Type 0 where
  pub unit : PadUnit
  pub width : ℕ

unfoldable pub chip_away_bits : ℕ → ℕ → ℕ
chip_away_bits total at_most = elim (eqb (total % at_most) 0) [ true ↦ at_most | false ↦ total % at_most ]

-- the next pad of a gap
unfoldable pub pad_of : ℕ → ℕ → Pad
pad_of ptr_sz gap =
    elim (ltb 4 ptr_sz && ltb 32 gap) [
      | true ↦ record { unit = long; width = chip_away_bits gap (ptr_sz * 8) }
      | false ↦ elim (ltb 16 gap) [
        | true ↦ record { unit = int; width = chip_away_bits gap 32 }
        | false ↦ elim (ltb 8 gap) [
          | true ↦ record { unit = short; width = chip_away_bits gap 16 }
          | false ↦ record { unit = char; width = chip_away_bits gap 8 }
        ]
      ]
    ]

-- at most as many as the first number says; a pad is a bit at least, so `pads_of gap ptr_sz gap` has them all
unfoldable pub pads_of : ℕ → ℕ → ℕ → List Pad
pads_of zero ptr_sz gap = []
pads_of (suc most) ptr_sz gap =
    elim (eqb gap 0) [ true ↦ [] | false ↦ pad_of ptr_sz gap ∷ pads_of most ptr_sz (gap - (pad_of ptr_sz gap).width) ]

unfoldable pub gap_pads : ℕ → ℕ → ℕ → ℕ → List Pad
gap_pads ptr_sz bit_size gap a = elim (eqb bit_size 0 && ltb gap (a * 8)) [ true ↦ [] | false ↦ pads_of gap ptr_sz gap ]

-- Placing mode: "each pad takes the widest unit whose start is a multiple of its width and that still fits the gap"; `long: 64`
-- for pointers of 8 bytes only
unfoldable pub suits : ℕ → ℕ → ℕ → Bool
suits start gap width = eqb (start % width) 0 && leb width gap

unfoldable pub placed_pad : ℕ → ℕ → ℕ → Pad
placed_pad ptr_sz start gap =
    elim (eqb ptr_sz 8 && suits start gap 64) [
      | true ↦ record { unit = long; width = 64 }
      | false ↦ elim (suits start gap 32) [
        | true ↦ record { unit = int; width = 32 }
        | false ↦ elim (suits start gap 16) [
          | true ↦ record { unit = short; width = 16 }
          | false ↦ elim (suits start gap 8) [
            | true ↦ record { unit = char; width = 8 }
            | false ↦ elim (suits start gap 4) [
              | true ↦ record { unit = char; width = 4 }
              | false ↦ elim (suits start gap 2) [ true ↦ record { unit = char; width = 2 } | false ↦ record { unit = char; width = 1 } ]
            ]
          ]
        ]
      ]
    ]

-- the pads of a gap from a bit on; at most as many as the first number says, and a gap has no more than bits
unfoldable pub placed_pads : ℕ → ℕ → ℕ → ℕ → List Pad
placed_pads zero ptr_sz start gap = []
placed_pads (suc most) ptr_sz start gap =
    elim (eqb gap 0) [
      | true ↦ []
      | false ↦ placed_pad ptr_sz start gap
          ∷ placed_pads most ptr_sz (start + (placed_pad ptr_sz start gap).width) (gap - (placed_pad ptr_sz start gap).width)
    ]

-- "Which gaps before members are padded is as in the old mode."
unfoldable pub placed_gap : ℕ → ℕ → ℕ → ℕ → ℕ → List Pad
placed_gap ptr_sz start bit_size gap a = elim (eqb bit_size 0 && ltb gap (a * 8)) [ true ↦ [] | false ↦ placed_pads gap ptr_sz start gap ]

unfoldable pub pads_before : Bool → ℕ → ℕ → ℕ → ℕ → ℕ → List Pad
pads_before placing ptr_sz start bit_size gap a =
    elim placing [ true ↦ placed_gap ptr_sz start bit_size gap a | false ↦ gap_pads ptr_sz bit_size gap a ]

unfoldable pub bit_padding : Btf → ℕ → Member → Bool → Ask (List Pad)
bit_padding B offset m packed =
    elim (leb m.bit_offset offset) [
      | true ↦ got []
      | false ↦ ask_then (elim packed [ true ↦ got 1 | false ↦ get_align_of 512 B m.type_id ])
          (λ a. got (pads_before B.placing B.ptr_sz offset m.bit_size (m.bit_offset - offset) a))
    ]

-- where the next member may begin
unfoldable pub end_of : Btf → Member → Ask ℕ
end_of B m =
    elim (eqb m.bit_size 0) [
      | true ↦ ask_then (get_size_of 512 B m.type_id) (λ s. ask_then (checked (8 * s)) (λ bits. checked (m.bit_offset + bits)))
      | false ↦ checked (m.bit_offset + m.bit_size)
    ]

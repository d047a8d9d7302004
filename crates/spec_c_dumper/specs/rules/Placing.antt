-- Placing mode: a body is measured before its first name or byte, and a tail pad fills a struct to its size.
use Rattle.std.specs.Prelude.{ℕ, ◌+◌, ◌-◌, ◌*◌, ◌/◌, ◌%◌, Bool, true, false, ◌&&◌, List, [], ◌∷◌, leb, eqb}
use Rattle.spec_c_dumper.specs.rules.Writer.{Ask, got, no, ask_then, checked, misplaced}
use Rattle.spec_c_dumper.specs.rules.Types.{Member, Btf}
use Rattle.spec_c_dumper.specs.rules.Layout.{larger, get_size_of, align_members, get_align_of, is_struct_packed, Pad, placed_pads, end_of}

-- the least multiple of k that is not below n
unfoldable pub round_up : ℕ → ℕ → ℕ
round_up n k = (n + (k - 1)) / k * k

-- whether `width` bits from `start` on lie in one unit
unfoldable pub same_unit : ℕ → ℕ → ℕ → Bool
same_unit unit start width = eqb (start / unit) ((start + width - 1) / unit)

-- the size of a bit field's type; a plain member's is asked with its end
unfoldable pub field_size : Btf → Member → Ask ℕ
field_size B m = elim (eqb m.bit_size 0) [ true ↦ got 0 | false ↦ get_size_of 512 B m.type_id ]

-- a bit field of a type of so many bytes: no wider than it, and in a struct not packed inside one unit of it
unfoldable pub field_fits : Bool → ℕ → ℕ → ℕ → Bool
field_fits packed size bit_offset bit_size =
    leb bit_size (8 * size) && (elim packed [ true ↦ true | false ↦ same_unit (8 * size) bit_offset bit_size ])

-- where a member may start: in a struct not before the end of the one before it, in a union at bit 0
unfoldable pub start_fits : Bool → ℕ → ℕ → Bool
start_fits is_struct last start = elim is_struct [ true ↦ leb last start | false ↦ eqb start 0 ]

-- a member of a struct after one that ends at `last`, or of a union; a plain one is on a byte
unfoldable pub member_fits : Bool → Bool → ℕ → ℕ → ℕ → ℕ → Bool
member_fits is_struct packed last size bit_offset bit_size =
    start_fits is_struct last bit_offset && (elim (eqb bit_size 0) [
      | true ↦ eqb (bit_offset % 8) 0
      | false ↦ field_fits packed size bit_offset bit_size
    ])

-- what the members reach, a struct's last end or a union's largest member, and whether all of them fit
pub record Extent : Type 0 where
  pub last : ℕ
  pub fits : Bool

unfoldable pub reached : Bool → ℕ → ℕ → ℕ
reached is_struct last end = elim is_struct [ true ↦ end | false ↦ larger last end ]

-- one member more, of a type of so many bytes if it is a bit field
unfoldable pub with_member : Bool → Bool → Extent → ℕ → ℕ → ℕ → ℕ → Extent
with_member is_struct packed x size end bit_offset bit_size =
    record { last = reached is_struct x.last end; fits = x.fits && member_fits is_struct packed x.last size bit_offset bit_size }

-- the members in order: the size of a bit field's type (12, 16), then the end (12, 16)
module _ (B : Btf) (is_struct packed : Bool) where
  unfoldable pub extent_of : Extent → List Member → Ask Extent
  extent_of x [] = got x
  extent_of x (m ∷ ms) =
      ask_then (field_size B m) (λ size. ask_then (end_of B m)
      (λ end. extent_of (with_member is_struct packed x size end m.bit_offset m.bit_size) ms))

-- no member seen yet
abbrev pub no_extent : Extent
no_extent = record { last = 0; fits = true }

-- a union's alignment, one call deeper as in get_align_of(id); a struct's is asked by the packed test
unfoldable pub union_align : Btf → Bool → List Member → Ask ℕ
union_align B is_struct ms = elim is_struct [ true ↦ got 1 | false ↦ align_members (get_align_of 511 B) 1 ms ]

-- a struct is not below its last end, a union is its largest member rounded up to its alignment
unfoldable pub size_fits : Bool → ℕ → ℕ → ℕ → Bool
size_fits is_struct a last bits = elim is_struct [ true ↦ leb last bits | false ↦ eqb bits (round_up last (8 * a)) ]

-- whether the body is packed: "a body's 12, 15 and 16 from sizes, alignments and offsets, then 16 for its size over 4294967295
-- bits, and then 18"
unfoldable pub measured : Btf → Bool → ℕ → List Member → Ask Bool
measured B is_struct sz ms =
    ask_then (union_align B is_struct ms) (λ a.
    ask_then (is_struct_packed B is_struct sz ms) (λ packed.
    ask_then (extent_of B is_struct packed no_extent ms) (λ x.
    ask_then (checked (8 * sz)) (λ bits.
    elim (x.fits && size_fits is_struct a x.last bits) [ true ↦ got packed | false ↦ no misplaced ]))))

-- what is known of a body before its first name or byte: whether it is packed
unfoldable pub body_packed : Btf → Bool → ℕ → List Member → Ask Bool
body_packed B is_struct sz ms = elim B.placing [ true ↦ measured B is_struct sz ms | false ↦ is_struct_packed B is_struct sz ms ]

-- "a tail pad fills the struct to its size": from the last end on
unfoldable pub tail_pads : Bool → ℕ → Bool → ℕ → ℕ → List Pad
tail_pads placing ptr_sz is_struct sz last =
    elim (placing && is_struct) [ true ↦ placed_pads (8 * sz - last) ptr_sz last (8 * sz - last) | false ↦ [] ]

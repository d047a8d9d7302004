-- What the code's pads stand for.
use Rattle.std.specs.Prelude.{ℕ, Bool, true, false, ◌&&◌, List, leb}
use Rattle.std.specs.Int.Count.{count_trailing_zeros}
use Rattle.spec_c_dumper.specs.rules.Layout.{PadUnit, long, int, short, char, Pad, pad_of, pads_of, placed_pad, placed_pads}
use Rattle.c_dumper_padding.specs.declared.units.Pad.{Pad as Code}
use Rattle.c_dumper_padding.specs.declared.units.Unit.{Unit}
use Rattle.c_dumper_padding.specs.declared.units.Unit.TheVariants.{Long, Int, Short, Char}

abbrev pub unit_of : Unit → PadUnit
unit_of Long = long
unit_of Int = int
unit_of Short = short
unit_of Char = char

unfoldable pub pad_is : Code → Pad
pad_is p = record { unit = unit_of p.unit; width = p.width }

-- the next pad of a gap from a bit on, and all of them: in placing mode, and in the old one
unfoldable pub pad_by : Bool → ℕ → ℕ → ℕ → Pad
pad_by placing ptr_sz start gap = elim placing [ true ↦ placed_pad ptr_sz start gap | false ↦ pad_of ptr_sz gap ]

unfoldable pub pads_by : Bool → ℕ → ℕ → ℕ → List Pad
pads_by placing ptr_sz start gap = elim placing [ true ↦ placed_pads gap ptr_sz start gap | false ↦ pads_of gap ptr_sz gap ]

-- whether a pad of 2^log = width bits starts on a multiple of its width, by the zeros at the end of its start, and fits
unfoldable pub suits_by : ℕ → ℕ → ℕ → ℕ → Bool
suits_by start gap log width = leb log (count_trailing_zeros 64 start) && leb width gap

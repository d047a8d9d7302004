-- The measuring of a body (rules, Placing), step by step.
use Rattle.std.specs.Prelude.{ℕ, ◌*◌, Bool, true, false, ◌&&◌, Result, Ok, Err}
use Rattle.spec_bytes.specs.declared.refusal.Refusal.{Refusal}
use Rattle.spec_bytes.specs.Refusals.{refusal_number}
use Rattle.spec_c_dumper.specs.rules.Writer.{Ask, got, no, ask_then, checked, misplaced}
use Rattle.spec_c_dumper.specs.rules.Types.{Member, Btf}
use Rattle.spec_c_dumper.specs.rules.Layout.{end_of}
use Rattle.spec_c_dumper.specs.rules.Placing.{Extent, field_size, with_member, size_fits}
use Rattle.c_dumper_padding.specs.declared.extents.Extent.{Extent as Code}

-- what the code's answers say, as the rules have it
unfoldable pub extent_is : Code → Extent
extent_is x = record { last = x.last; fits = x.fits }

unfoldable pub extents_of : Result Code Refusal → Ask Extent
extents_of (Ok x) = got (extent_is x)
extents_of (Err c) = no (refusal_number c)

unfoldable pub with_extent : Bool → Bool → Code → ℕ → ℕ → ℕ → ℕ → Extent
with_extent is_struct packed x size end bit_offset bit_size = with_member is_struct packed (extent_is x) size end bit_offset bit_size

-- one member more
unfoldable pub one_member : Btf → Bool → Bool → Code → Member → Ask Extent
one_member B is_struct packed x m =
    ask_then (field_size B m) (λ size. ask_then (end_of B m)
    (λ end. got (with_extent is_struct packed x size end m.bit_offset m.bit_size)))

-- 16 for the size, then 18
unfoldable pub judged : Bool → ℕ → ℕ → Bool → Extent → Ask Bool
judged is_struct sz a packed x =
    ask_then (checked (8 * sz)) (λ bits. elim (x.fits && size_fits is_struct a x.last bits) [ true ↦ got packed | false ↦ no misplaced ])

-- What a body asks, by the remembering way: the packed test, the padding, and placing mode's measuring. The clauses are those of
-- crates/spec_c_dumper/specs/rules/Layout and Placing, with alignments from the memory.
use Rattle.std.specs.Prelude.{ℕ, ◌-◌, ◌*◌, ◌%◌, Bool, true, false, ◌&&◌, List, [], ◌∷◌, leb, eqb}
use Rattle.spec_c_dumper.specs.rules.Writer.{Ask, got, no, ask_then, checked, align_zero, misplaced}
use Rattle.spec_c_dumper.specs.rules.Types.{Member, Btf}
use Rattle.spec_c_dumper.specs.rules.Layout.{Pad, pads_before}
use Rattle.spec_c_dumper.specs.rules.Placing.{extent_of, no_extent, size_fits}
use Rattle.spec_c_dumper.specs.alignment_once.Once.{Keep, found, refused, Asking, once_then, alignment_once}

module _ {M : Type 0} where
  -- a question that asks for no alignment
  unfoldable pub plainly : {A : Type 0} → Ask A → Asking M A
  plainly (got a) m k = found a m k
  plainly (no c) m k = refused c m k

  unfoldable pub off_align_once : ℕ → ℕ → Asking M Bool → Asking M Bool
  off_align_once a bit_offset rest m k =
      elim (eqb a 0) [
        | true ↦ refused align_zero m k
        | false ↦ elim (eqb (bit_offset % (a * 8)) 0) [ true ↦ rest m k | false ↦ found true m k ]
      ]

-- sizes, ends and the size of the whole, which ask for no alignment
unfoldable pub judged : Btf → Bool → ℕ → List Member → ℕ → Bool → Ask Bool
judged B is_struct sz ms a packed =
    ask_then (extent_of B is_struct packed no_extent ms) (λ x.
    ask_then (checked (8 * sz)) (λ bits.
    elim (x.fits && size_fits is_struct a x.last bits) [ true ↦ got packed | false ↦ no misplaced ]))

module _ {M : Type 0} (K : Keep M) (B : Btf) where
  unfoldable pub members_packed_once : List Member → Asking M Bool
  members_packed_once [] m k = found false m k
  members_packed_once (x ∷ xs) m k =
      elim (eqb x.bit_size 0) [
        | true ↦ once_then (alignment_once K 512 B x.type_id m k)
            (λ a. off_align_once a x.bit_offset (λ m' k'. members_packed_once xs m' k'))
        | false ↦ members_packed_once xs m k
      ]

  -- is_struct_packed(id, t)
  unfoldable pub packed_once : Bool → ℕ → ℕ → List Member → Asking M Bool
  packed_once is_struct id sz ms m k =
      elim is_struct [
        | false ↦ found false m k
        | true ↦ once_then (alignment_once K 512 B id m k)
            (λ a m' k'. elim (eqb (sz % a) 0) [ true ↦ members_packed_once ms m' k' | false ↦ found true m' k' ])
      ]

  unfoldable pub gap_align_once : Bool → ℕ → Asking M ℕ
  gap_align_once packed id m k = elim packed [ true ↦ found 1 m k | false ↦ alignment_once K 512 B id m k ]

  unfoldable pub padding_once : ℕ → Member → Bool → Asking M (List Pad)
  padding_once offset x packed m k =
      elim (leb x.bit_offset offset) [
        | true ↦ found [] m k
        | false ↦ once_then (gap_align_once packed x.type_id m k)
            (λ a. found (pads_before B.placing B.ptr_sz offset x.bit_size (x.bit_offset - offset) a))
      ]

  unfoldable pub union_align_once : Bool → ℕ → Asking M ℕ
  union_align_once is_struct id m k = elim is_struct [ true ↦ found 1 m k | false ↦ alignment_once K 512 B id m k ]

  unfoldable pub measured_once : Bool → ℕ → ℕ → List Member → Asking M Bool
  measured_once is_struct id sz ms m k =
      once_then (union_align_once is_struct id m k)
      (λ a m₁ k₁. once_then (packed_once is_struct id sz ms m₁ k₁) (λ packed. plainly (judged B is_struct sz ms a packed)))

  -- what is known of a body before its first name or byte
  unfoldable pub body_once : Bool → ℕ → ℕ → List Member → Asking M Bool
  body_once is_struct id sz ms m k =
      elim B.placing [ true ↦ measured_once is_struct id sz ms m k | false ↦ packed_once is_struct id sz ms m k ]

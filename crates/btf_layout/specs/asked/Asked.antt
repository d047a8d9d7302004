-- What a body asks (crates/spec_c_dumper/specs/alignment_once/Steps) of the memory in the work. The visits stand in the work, so none are
-- counted beside it.
use Rattle.std.specs.Prelude.{ℕ, ◌*◌, ◌%◌, Bool, true, false, not, List, eqb, Result, Ok, Err}
use Rattle.spec_c_dumper.specs.rules.Writer.{Ask, got, no, align_zero}
use Rattle.spec_c_dumper.specs.rules.Types.{Member, Btf as Rules}
use Rattle.spec_bytes.specs.declared.refusal.Refusal.{Refusal}
use Rattle.spec_bytes.specs.Refusals.{refusal_number}
use Rattle.spec_c_dumper.specs.alignment_once.Once.{Keep, Once, found, refused, Asking, once_then, alignment_once}
use Rattle.spec_type_table.specs.Cells.{get_field}
use Rattle.spec_c_dumper.specs.alignment_once.Steps.{plainly, members_packed_once, packed_once, gap_align_once, union_align_once}
use Rattle.spec_c_dumper.specs.alignment_once.Steps.{padding_once}
use Rattle.spec_c_dumper.specs.alignment_once.Steps.{body_once}
use Rattle.spec_c_dumper.specs.alignment_once.Writers.{Asks}
use Rattle.btf_layout.specs.remembered.Words.{work_keep, forget}

-- what the code's answers say, with the work at that moment
unfoldable pub ask_in : {A : Type 0} → Result A Refusal → List ℕ → Once (List ℕ) A
ask_in (Ok a) w = found a w 0
ask_in (Err c) w = refused (refusal_number c) w 0

-- ---- one member of the packed test
unfoldable pub off_by : ℕ → ℕ → Ask Bool
off_by a bit_offset = elim (eqb a 0) [ true ↦ no align_zero | false ↦ got (not (eqb (bit_offset % (a * 8)) 0)) ]

unfoldable pub off_once : {M : Type 0} → Keep M → Rules → Member → Asking M Bool
off_once K B x m k =
    elim (eqb x.bit_size 0) [
      | true ↦ once_then (alignment_once K 512 B x.type_id m k) (λ a. plainly (off_by a x.bit_offset))
      | false ↦ found false m k
    ]

-- ---- the questions in the work
module _ (types : ℕ) (B : Rules) where
  unfoldable pub align_in : ℕ → List ℕ → Once (List ℕ) ℕ
  align_in id w = forget (alignment_once (work_keep types B) 512 B id w 0)

  unfoldable pub gap_in : Bool → ℕ → List ℕ → Once (List ℕ) ℕ
  gap_in packed id w = forget (gap_align_once (work_keep types B) B packed id w 0)

  unfoldable pub union_in : Bool → ℕ → List ℕ → Once (List ℕ) ℕ
  union_in is_struct id w = forget (union_align_once (work_keep types B) B is_struct id w 0)

  unfoldable pub off_in : Member → List ℕ → Once (List ℕ) Bool
  off_in x w = forget (off_once (work_keep types B) B x w 0)

  unfoldable pub members_in : List Member → List ℕ → Once (List ℕ) Bool
  members_in ms w = forget (members_packed_once (work_keep types B) B ms w 0)

  unfoldable pub packed_at : Bool → ℕ → ℕ → List Member → List ℕ → Once (List ℕ) Bool
  packed_at is_struct id sz ms w = forget (packed_once (work_keep types B) B is_struct id sz ms w 0)

-- what an emitter asks of the work; the visits so far stand in word 2 of void
abbrev pub work_asks : ℕ → Rules → Asks (List ℕ)
work_asks types B = record {
  padding = λ offset x packed w. padding_once (work_keep types B) B offset x packed w (get_field w 0 2);
  body = λ is_struct id sz ms w. body_once (work_keep types B) B is_struct id sz ms w (get_field w 0 2);
}

-- Opening a section: the number, the values, and what is left in the work and in the text.
use Rattle.std.specs.Prelude.{ℕ, true, false, List, length, replicate, eqb, Result, Ok, Err}
use Rattle.spec_bytes.specs.declared.refusal.Refusal.{Refusal}
use Rattle.spec_bytes.specs.Refusals.{refusal_number}
use Rattle.btf_open_causes.specs.declared.records.Counts.{Counts}
use Rattle.btf_open_causes.specs.header.Header.{btf_of}
use Rattle.spec_opening.specs.Table.{types_of, enumerators_of, index_of}
use Rattle.spec_opening.specs.Causes.{next, first_of, two_to_six, opening_number}
use Rattle.btf_open_names.specs.filled_work.Left.{filled}
use Rattle.btf_open_names.specs.filled_work.Takers.{takers_in}

-- a refusal and its number; or the count of types, void counted, and that of enumerators; then work and text
pub data Outcome : Type 0 where
  refused : ℕ → List ℕ → List ℕ → Outcome
  opened : ℕ → ℕ → List ℕ → List ℕ → Outcome

-- what the code's answer, and work and text at its exit, say
unfoldable pub open_out : Result Counts Refusal → List ℕ → List ℕ → Outcome
open_out (Err c) w t = refused (refusal_number c) w t
open_out (Ok counts) w t = opened counts.types counts.enumerators w t

-- the work of n bytes that a successful opening leaves: places of records and of enumerators, tags, name classes, with bit 3 of the modes
-- the lists of taken numbers, and else zeros
unfoldable pub work_of : ℕ → ℕ → List ℕ → ℕ → List ℕ
work_of pointer modes s n =
    takers_in modes (btf_of s pointer modes (types_of s)) (enumerators_of s) s
    (filled (btf_of s pointer modes (types_of s)) s (index_of s) (enumerators_of s) (replicate n 0))

-- document 01: the first cause that holds refuses, and work and text are left as they were; where none holds, the text is zero
unfoldable pub opening_of : ℕ → ℕ → List ℕ → List ℕ → List ℕ → Outcome
opening_of pointer modes s w t =
    elim (eqb (opening_number pointer s (length w)) 0) [
      | true ↦ opened (types_of s) (enumerators_of s) (work_of pointer modes s (length w)) (replicate (length t) 0)
      | false ↦ refused (opening_number pointer s (length w)) w t
    ]

-- before anything is written: a refusal; or the counts, and the index of the records
pub data Examined : Type 0 where
  refused_by : ℕ → Examined
  sound_with : ℕ → ℕ → List ℕ → Examined

unfoldable pub examine_out : Result Counts Refusal → List ℕ → Examined
examine_out (Err r) start = refused_by (refusal_number r)
examine_out (Ok counts) start = sound_with counts.types counts.enumerators start

unfoldable pub examined : ℕ → List ℕ → ℕ → Examined
examined pointer s work =
    elim (eqb (opening_number pointer s work) 0) [
      | true ↦ sound_with (types_of s) (enumerators_of s) (index_of s)
      | false ↦ refused_by (opening_number pointer s work)
    ]

-- the same by causes 2 to 6 alone
unfoldable pub indexed : ℕ → List ℕ → Examined
indexed pointer s =
    elim (eqb (first_of (two_to_six pointer s)) 0) [
      | true ↦ sound_with (types_of s) (enumerators_of s) (index_of s)
      | false ↦ refused_by (next (first_of (two_to_six pointer s)))
    ]

-- What the call for a section cut down comes to: the result, and the output slice after it. Record and section are only read.
use Rattle.std.specs.Prelude.{ℕ, ◌*◌, true, false, List, ltb, length}
use Rattle.session_record.specs.record_words.Words.{packed, decoded}
use Rattle.session_cut.specs.call.Calls.{Cut, cut_call}

pub record CutExport : Type 0 where
  pub result : ℕ
  pub out : List ℕ

unfoldable pub cut_export_of : ℕ → List ℕ → CutExport
cut_export_of n out = record { result = n; out = out }

unfoldable pub cut_for : Cut → CutExport
cut_for c = cut_export_of (packed c.answer) c.out

-- a record of under 128 bytes: 11
unfoldable pub cut_export : List ℕ → List ℕ → List ℕ → List ℕ → CutExport
cut_export r section given out =
    elim (ltb (length r) 128) [ true ↦ cut_export_of (11 * 4294967296) out | false ↦ cut_for (cut_call (decoded r) section given out) ]

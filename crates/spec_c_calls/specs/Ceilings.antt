-- What each request under a ceiling comes to for C: what the plain call's contract tells, and the count that is stored for the caller.
use Rattle.std.specs.Prelude.{ℕ, ◌*◌, true, false, List, [], ◌∷◌, ltb, length}
use Rattle.spec_session.specs.session.Answers.{number_of, value_of}
use Rattle.session_record.specs.record_words.Words.{packed, decoded}
use Rattle.session_record.specs.record_bytes.Record.{record_listed}
use Rattle.spec_session.specs.metered.Within.{CallWithin, type_call_within, types_call_within}
use Rattle.spec_session.specs.metered.Lists.{list_call_within}
use Rattle.spec_c_calls.specs.Exports.{Export, export_of, answered_by}

pub record WithinExport : Type 0 where
  pub export : Export
  pub made : ℕ

unfoldable pub within_export_of : ℕ → List ℕ → List ℕ → List ℕ → ℕ → WithinExport
within_export_of n r w t made = record { export = export_of n r w t; made = made }

unfoldable pub answered_within : List ℕ → CallWithin → WithinExport
answered_within r d = record { export = answered_by r d.call; made = d.made }

-- a record of under 128 bytes: 11 with value 0, and no call is made
unfoldable pub type_within_export : ℕ → List ℕ → List ℕ → List ℕ → List ℕ → ℕ → WithinExport
type_within_export c r section w t id =
    elim (ltb (length r) 128) [
      | true ↦ within_export_of (11 * 4294967296) r w t 0
      | false ↦ answered_within r (type_call_within c (decoded r) section w t id 0)
    ]

unfoldable pub types_within_export : ℕ → List ℕ → List ℕ → List ℕ → List ℕ → WithinExport
types_within_export c r section w t =
    elim (ltb (length r) 128) [
      | true ↦ within_export_of (11 * 4294967296) r w t 0
      | false ↦ answered_within r (types_call_within c (decoded r) section w t)
    ]

-- a list of ids: the value is the count of the accepted, and the record has the text length that they left; an empty list tests and changes
-- nothing
unfoldable pub listed_within : List ℕ → CallWithin → WithinExport
listed_within r d = record {
  export =
      export_of (packed d.call.answer) (record_listed (number_of d.call.answer) (value_of d.call.answer)
      d.call.session.text_len d.call.session.visits r) d.call.work d.call.text;
  made = d.made;
}

unfoldable pub list_within_export : ℕ → List ℕ → List ℕ → List ℕ → List ℕ → List ℕ → WithinExport
list_within_export c r section w t [] = within_export_of 0 r w t 0
list_within_export c r section w t (id ∷ ids) =
    elim (ltb (length r) 128) [
      | true ↦ within_export_of (11 * 4294967296) r w t 0
      | false ↦ listed_within r (list_call_within c (decoded r) section w t (id ∷ ids))
    ]

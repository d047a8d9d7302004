-- What each request that is lent a list comes to for C: what the plain call's contract tells, the list, and the count of its entries.
use Rattle.std.specs.Prelude.{ℕ, ◌*◌, true, false, List, [], ◌∷◌, ltb, length}
use Rattle.spec_session.specs.session.Answers.{number_of, value_of}
use Rattle.session_record.specs.record_words.Words.{packed, decoded}
use Rattle.session_record.specs.record_bytes.Record.{record_listed}
use Rattle.spec_session.specs.origin_calls.Bytes.{CauseCall, type_causes, types_causes}
use Rattle.spec_session.specs.origin_calls.Several.{list_causes_call}
use Rattle.spec_c_calls.specs.Exports.{Export, export_of, answered_by}

pub record CausesExport : Type 0 where
  pub export : Export
  pub count : ℕ
  pub list : List ℕ

unfoldable pub causes_export_of : ℕ → List ℕ → List ℕ → List ℕ → ℕ → List ℕ → CausesExport
causes_export_of n r w t count l = record { export = export_of n r w t; count = count; list = l }

unfoldable pub answered_causes : List ℕ → CauseCall → CausesExport
answered_causes r d = record { export = answered_by r d.call; count = d.count; list = d.list }

-- a record of under 128 bytes: 11 with value 0, and no entry
unfoldable pub type_causes_export : List ℕ → List ℕ → List ℕ → List ℕ → ℕ → List ℕ → CausesExport
type_causes_export r section w t id l =
    elim (ltb (length r) 128) [
      | true ↦ causes_export_of (11 * 4294967296) r w t 0 l
      | false ↦ answered_causes r (type_causes (decoded r) section w t id l)
    ]

unfoldable pub types_causes_export : List ℕ → List ℕ → List ℕ → List ℕ → List ℕ → CausesExport
types_causes_export r section w t l = elim (ltb (length r) 128) [
  | true ↦ causes_export_of (11 * 4294967296) r w t 0 l
  | false ↦ answered_causes r (types_causes (decoded r) section w t l)
]

-- a list of ids: the value is the count of the accepted; an empty list tests and changes nothing
unfoldable pub listed_causes : List ℕ → CauseCall → CausesExport
listed_causes r d = record {
  export =
      export_of (packed d.call.answer) (record_listed (number_of d.call.answer) (value_of d.call.answer)
      d.call.session.text_len d.call.session.visits r) d.call.work d.call.text;
  count = d.count;
  list = d.list;
}

unfoldable pub list_causes_export : List ℕ → List ℕ → List ℕ → List ℕ → List ℕ → List ℕ → CausesExport
list_causes_export r section w t [] l = causes_export_of 0 r w t 0 l
list_causes_export r section w t (id ∷ ids) l =
    elim (ltb (length r) 128) [
      | true ↦ causes_export_of (11 * 4294967296) r w t 0 l
      | false ↦ listed_causes r (list_causes_call (decoded r) section w t (id ∷ ids) l)
    ]

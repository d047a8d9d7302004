-- What each call for C comes to: the result, and record, work and text after it.
use Rattle.std.specs.Prelude.{ℕ, zero, suc, ◌+◌, ◌*◌, ◌/◌, true, false, List, [], ◌∷◌, ltb, length}
use Rattle.spec_session.specs.session.Turns.{Call}
use Rattle.spec_session.specs.calls.Calls.{open_call, type_call, types_call}
use Rattle.session_record.specs.record_words.Words.{packed, decoded}
use Rattle.session_record.specs.record_bytes.Record.{record_opened, record_after}

pub record Export : Type 0 where
  pub result : ℕ
  pub bytes : List ℕ
  pub work : List ℕ
  pub text : List ℕ

unfoldable pub export_of : ℕ → List ℕ → List ℕ → List ℕ → Export
export_of n r w t = record { result = n; bytes = r; work = w; text = t }

-- the call on the session that the record says, with its answer and its record as bytes
unfoldable pub opened_by : List ℕ → Call → Export
opened_by r c = export_of (packed c.answer) (record_opened c.answer c.session r) c.work c.text

unfoldable pub answered_by : List ℕ → Call → Export
answered_by r c = export_of (packed c.answer) (record_after c.answer c.session.visits r) c.work c.text

-- a record of under 128 bytes: number 255 at opening, and 11 with value 0 of a request; nothing is touched
unfoldable pub open_export : List ℕ → List ℕ → ℕ → ℕ → List ℕ → List ℕ → Export
open_export r section pointer modes w t =
    elim (ltb (length r) 128) [
      | true ↦ export_of (255 * 4294967296) r w t
      | false ↦ opened_by r (open_call (decoded r) section w t pointer modes)
    ]

unfoldable pub type_export : List ℕ → List ℕ → List ℕ → List ℕ → ℕ → Export
type_export r section w t id =
    elim (ltb (length r) 128) [ true ↦ export_of (11 * 4294967296) r w t | false ↦ answered_by r (type_call (decoded r) section w t id) ]

unfoldable pub types_export : List ℕ → List ℕ → List ℕ → List ℕ → Export
types_export r section w t =
    elim (ltb (length r) 128) [ true ↦ export_of (11 * 4294967296) r w t | false ↦ answered_by r (types_call (decoded r) section w t) ]

-- A list of ids: the calls for one id in that order, each lent record, work and text as the one before left them, up to and including the
-- first that is refused. n were accepted before; the value is the count of the accepted.
unfoldable pub counted_export : ℕ → Export → (Export → Export) → Export
counted_export n e k =
    elim (e.result / 4294967296) [ zero ↦ k e | suc m ↦ export_of (suc m * 4294967296 + n) e.bytes e.work e.text ]

unfoldable pub list_export_from : ℕ → List ℕ → List ℕ → List ℕ → List ℕ → List ℕ → Export
list_export_from n r section w t [] = export_of n r w t
list_export_from n r section w t (id ∷ ids) =
    counted_export n (type_export r section w t id) (λ e. list_export_from (suc n) e.bytes section e.work e.text ids)

unfoldable pub list_export : List ℕ → List ℕ → List ℕ → List ℕ → List ℕ → Export
list_export r section w t ids = list_export_from 0 r section w t ids

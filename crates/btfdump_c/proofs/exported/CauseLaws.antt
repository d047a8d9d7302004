-- A law for each return of src/exported/explained.rt. Assumes nothing.
use Prim.Native.Nat.{ℕ, ◌<◌, ◌≤◌}
use mathlib.Core.Path.{◌≡◌, ap, ◌∙◌, sym}
use mathlib.Core.List.{List}
use lib.ListN.{length}
use borrow.Author.Tests.{lt-ltb, le-ltb}
use Rattle.spec_session.specs.declared.session.Session.{Session}
use Rattle.spec_session.specs.session.Turns.{call_of}
use Rattle.spec_session.specs.session.Answers.{answer_is, number_of, value_of}
use Rattle.spec_session.specs.calls.Lists.{ids_in}
use Rattle.spec_session.proofs.calls.Lists.{ids_none, ids_some}
use Rattle.session_record.specs.record_words.Words.{packed, decoded}
use Rattle.session_record.specs.record_bytes.Record.{record_after, record_listed}
use Rattle.spec_session.specs.origin_calls.Bytes.{CauseCall, type_causes, types_causes}
use Rattle.session_requests.specs.options.Counted.{Ended}
use Rattle.session_requests.specs.options.Requests.{explained_of}
use Rattle.spec_session.specs.origin_calls.Several.{list_causes_call}
use Rattle.spec_c_calls.specs.Exports.{answered_by}
use Rattle.spec_c_calls.specs.Causes.{causes_export_of, answered_causes, type_causes_export, types_causes_export, listed_causes, list_causes_export}

module _ (r section w t l : List ℕ) where
  module _ (h : length r < 128) where
    pub type_short : (id : ℕ) → causes_export_of 47244640256 r w t 0 l ≡ type_causes_export r section w t id l
    unfolding type_causes_export
    type_short id = sym (rw (lt-ltb (length r) 128 h, type_causes_export))

    pub types_short : causes_export_of 47244640256 r w t 0 l ≡ types_causes_export r section w t l
    unfolding types_causes_export
    types_short = sym (rw (lt-ltb (length r) 128 h, types_causes_export))

  module _ (h : 128 ≤ length r) (s : Session) (es : s ≡ decoded r) (d : Ended) (w' t' l' : List ℕ) (u : ℕ) (r' : List ℕ) where
    tells : (a : CauseCall) → explained_of d w' t' l' ≡ a → (u ≡ packed (answer_is d.of.answer)) × (r' ≡ record_after (answer_is d.of.answer) d.of.session.visits r) → causes_export_of u r' w' t' d.count l' ≡ answered_causes r a
    unfolding causes_export_of answered_causes answered_by explained_of call_of
    tells a e eu = (λ i. causes_export_of (eu.0 i) (eu.1 i) w' t' d.count l') ∙ ap (answered_causes r) e

    pub type_is : (id : ℕ) → explained_of d w' t' l' ≡ type_causes s section w t id l → (u ≡ packed (answer_is d.of.answer)) × (r' ≡ record_after (answer_is d.of.answer) d.of.session.visits r) → causes_export_of u r' w' t' d.count l' ≡ type_causes_export r section w t id l
    unfolding type_causes_export
    type_is id e eu = tells _ (e ∙ ap (λ (q : Session). type_causes q section w t id l) es) eu ∙ sym (rw (le-ltb (length r) 128 h, type_causes_export))

    pub types_is : explained_of d w' t' l' ≡ types_causes s section w t l → (u ≡ packed (answer_is d.of.answer)) × (r' ≡ record_after (answer_is d.of.answer) d.of.session.visits r) → causes_export_of u r' w' t' d.count l' ≡ types_causes_export r section w t l
    unfolding types_causes_export
    types_is e eu = tells _ (e ∙ ap (λ (q : Session). types_causes q section w t l) es) eu ∙ sym (rw (le-ltb (length r) 128 h, types_causes_export))

-- ---- a list
module _ (r section w t ids l : List ℕ) where
  pub list_none : length ids < 4 → causes_export_of 0 r w t 0 l ≡ list_causes_export r section w t (ids_in ids) l
  unfolding list_causes_export
  list_none h = sym (ap (λ (xs : List ℕ). list_causes_export r section w t xs l) (ids_none ids h))

  module _ (some : 4 ≤ length ids) where
    pub list_short : length r < 128 → causes_export_of 47244640256 r w t 0 l ≡ list_causes_export r section w t (ids_in ids) l
    unfolding list_causes_export
    list_short h = sym (ap (λ (xs : List ℕ). list_causes_export r section w t xs l) (ids_some ids some) ∙ rw (lt-ltb (length r) 128 h, list_causes_export))

    pub list_is : 128 ≤ length r → (s : Session) → s ≡ decoded r → (d : Ended) (w' t' l' : List ℕ) (u : ℕ) (r' : List ℕ) → explained_of d w' t' l' ≡ list_causes_call s section w t (ids_in ids) l
        → (u ≡ packed (answer_is d.of.answer)) × (r' ≡ record_listed (number_of (answer_is d.of.answer)) (value_of (answer_is d.of.answer)) d.of.session.text_len d.of.session.visits r)
        → causes_export_of u r' w' t' d.count l' ≡ list_causes_export r section w t (ids_in ids) l
    unfolding causes_export_of listed_causes list_causes_export explained_of call_of
    list_is h s es d w' t' l' u r' e eu =
        (λ i. causes_export_of (eu.0 i) (eu.1 i) w' t' d.count l')
        ∙ ap (listed_causes r) (e ∙ (λ i. list_causes_call (es i) section w t (ids_some ids some i) l))
        ∙ sym (ap (λ (xs : List ℕ). list_causes_export r section w t xs l) (ids_some ids some) ∙ rw (le-ltb (length r) 128 h, list_causes_export))

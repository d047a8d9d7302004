-- A law for each return of src/exported/ceilings.rt. Assumes nothing.
use Prim.Native.Nat.{ℕ, ◌<◌, ◌≤◌}
use mathlib.Core.Path.{◌≡◌, ap, ◌∙◌, sym}
use mathlib.Core.List.{List}
use lib.ListN.{length}
use borrow.Author.Tests.{lt-ltb, le-ltb}
use Rattle.spec_session.specs.declared.session.Session.{Session}
use Rattle.spec_session.specs.session.Turns.{call_of}
use Rattle.session_record.specs.record_words.Words.{packed, decoded}
use Rattle.session_record.specs.record_bytes.Record.{record_after, record_listed}
use Rattle.spec_session.specs.session.Answers.{answer_is, number_of, value_of}
use Rattle.spec_session.specs.calls.Lists.{ids_in}
use Rattle.spec_session.proofs.calls.Lists.{ids_none, ids_some}
use Rattle.spec_session.specs.metered.Lists.{list_call_within}
use Rattle.session_requests.specs.options.Counted.{Ended}
use Rattle.session_requests.specs.options.Requests.{counted_of}
use Rattle.spec_session.specs.metered.Within.{CallWithin, type_call_within, types_call_within}
use Rattle.spec_c_calls.specs.Exports.{answered_by}
use Rattle.spec_c_calls.specs.Ceilings.{within_export_of, answered_within, type_within_export, types_within_export, listed_within, list_within_export}

module _ (c : ℕ) (r section w t : List ℕ) where
  module _ (h : length r < 128) where
    pub type_short : (id : ℕ) → within_export_of 47244640256 r w t 0 ≡ type_within_export c r section w t id
    unfolding type_within_export
    type_short id = sym (rw (lt-ltb (length r) 128 h, type_within_export))

    pub types_short : within_export_of 47244640256 r w t 0 ≡ types_within_export c r section w t
    unfolding types_within_export
    types_short = sym (rw (lt-ltb (length r) 128 h, types_within_export))

  module _ (h : 128 ≤ length r) (s : Session) (es : s ≡ decoded r) (d : Ended) (w' t' : List ℕ) (u : ℕ) (r' : List ℕ) where
    tells : (a : CallWithin) → counted_of d w' t' ≡ a → (u ≡ packed (answer_is d.of.answer)) × (r' ≡ record_after (answer_is d.of.answer) d.of.session.visits r) → within_export_of u r' w' t' d.made ≡ answered_within r a
    unfolding within_export_of answered_within answered_by counted_of call_of
    tells a e eu = (λ i. within_export_of (eu.0 i) (eu.1 i) w' t' d.made) ∙ ap (answered_within r) e

    pub type_is : (id : ℕ) → counted_of d w' t' ≡ type_call_within c s section w t id 0 → (u ≡ packed (answer_is d.of.answer)) × (r' ≡ record_after (answer_is d.of.answer) d.of.session.visits r) → within_export_of u r' w' t' d.made ≡ type_within_export c r section w t id
    unfolding type_within_export
    type_is id e eu = tells _ (e ∙ ap (λ (q : Session). type_call_within c q section w t id 0) es) eu ∙ sym (rw (le-ltb (length r) 128 h, type_within_export))

    pub types_is : counted_of d w' t' ≡ types_call_within c s section w t → (u ≡ packed (answer_is d.of.answer)) × (r' ≡ record_after (answer_is d.of.answer) d.of.session.visits r) → within_export_of u r' w' t' d.made ≡ types_within_export c r section w t
    unfolding types_within_export
    types_is e eu = tells _ (e ∙ ap (λ (q : Session). types_call_within c q section w t) es) eu ∙ sym (rw (le-ltb (length r) 128 h, types_within_export))

-- ---- a list
module _ (c : ℕ) (r section w t ids : List ℕ) where
  pub list_none : length ids < 4 → within_export_of 0 r w t 0 ≡ list_within_export c r section w t (ids_in ids)
  unfolding list_within_export
  list_none h = sym (ap (list_within_export c r section w t) (ids_none ids h))

  module _ (some : 4 ≤ length ids) where
    pub list_short : length r < 128 → within_export_of 47244640256 r w t 0 ≡ list_within_export c r section w t (ids_in ids)
    unfolding list_within_export
    list_short h = sym (ap (list_within_export c r section w t) (ids_some ids some) ∙ rw (lt-ltb (length r) 128 h, list_within_export))

    pub list_is : 128 ≤ length r → (s : Session) → s ≡ decoded r → (d : Ended) (w' t' : List ℕ) (u : ℕ) (r' : List ℕ) → counted_of d w' t' ≡ list_call_within c s section w t (ids_in ids)
        → (u ≡ packed (answer_is d.of.answer)) × (r' ≡ record_listed (number_of (answer_is d.of.answer)) (value_of (answer_is d.of.answer)) d.of.session.text_len d.of.session.visits r)
        → within_export_of u r' w' t' d.made ≡ list_within_export c r section w t (ids_in ids)
    unfolding within_export_of listed_within list_within_export counted_of call_of
    list_is h s es d w' t' u r' e eu =
        (λ i. within_export_of (eu.0 i) (eu.1 i) w' t' d.made)
        ∙ ap (listed_within r) (e ∙ (λ i. list_call_within c (es i) section w t (ids_some ids some i)))
        ∙ sym (ap (list_within_export c r section w t) (ids_some ids some) ∙ rw (le-ltb (length r) 128 h, list_within_export))

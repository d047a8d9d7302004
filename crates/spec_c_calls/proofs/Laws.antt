-- A law for each return of the calls of c_calls/src/lib.rt. Assumes nothing.
use Prim.Native.Nat.{ℕ, ◌<◌, ◌≤◌}
use mathlib.Core.Path.{◌≡◌, ap, ◌∙◌, sym}
use mathlib.Core.List.{List}
use lib.ListN.{length}
use borrow.Author.Tests.{lt-ltb, le-ltb}
use Rattle.spec_session.specs.declared.session.Session.{Session}
use Rattle.spec_session.specs.declared.session.Turn.{Turn}
use Rattle.spec_session.specs.session.Answers.{answer_is}
use Rattle.spec_session.specs.session.Turns.{call_of}
use Rattle.spec_session.specs.calls.Calls.{open_call, type_call, types_call}
use Rattle.session_record.specs.record_words.Words.{decoded, packed}
use Rattle.session_record.specs.record_bytes.Record.{record_opened, record_after}
use Rattle.spec_c_calls.specs.Exports.{export_of, opened_by, answered_by, open_export, type_export, types_export}

-- ---- the exports
module _ (r section w t : List ℕ) where
  module _ (h : length r < 128) where
    pub open_short : (p m : ℕ) → export_of 1095216660480 r w t ≡ open_export r section p m w t
    unfolding open_export
    open_short p m = sym (rw (lt-ltb (length r) 128 h, open_export))

    pub type_short : (id : ℕ) → export_of 47244640256 r w t ≡ type_export r section w t id
    unfolding type_export
    type_short id = sym (rw (lt-ltb (length r) 128 h, type_export))

    pub types_short : export_of 47244640256 r w t ≡ types_export r section w t
    unfolding types_export
    types_short = sym (rw (lt-ltb (length r) 128 h, types_export))

  module _ (h : 128 ≤ length r) (s : Session) (es : s ≡ decoded r) (turn : Turn) (w' t' : List ℕ) (u : ℕ) (r' : List ℕ) where
    pub open_is : (p m : ℕ) → call_of turn.session (answer_is turn.answer) w' t' ≡ open_call s section w t p m → (u ≡ packed (answer_is turn.answer)) × (r' ≡ record_opened (answer_is turn.answer) turn.session r) → export_of u r' w' t' ≡ open_export r section p m w t
    unfolding open_export opened_by call_of
    open_is p m e eu =
        (λ i. export_of (eu.0 i) (eu.1 i) w' t')
        ∙ ap (opened_by r) (e ∙ ap (λ (q : Session). open_call q section w t p m) es)
        ∙ sym (rw (le-ltb (length r) 128 h, open_export))

    pub type_is : (id : ℕ) → call_of turn.session (answer_is turn.answer) w' t' ≡ type_call s section w t id → (u ≡ packed (answer_is turn.answer)) × (r' ≡ record_after (answer_is turn.answer) turn.session.visits r) → export_of u r' w' t' ≡ type_export r section w t id
    unfolding type_export answered_by call_of
    type_is id e eu =
        (λ i. export_of (eu.0 i) (eu.1 i) w' t')
        ∙ ap (answered_by r) (e ∙ ap (λ (q : Session). type_call q section w t id) es)
        ∙ sym (rw (le-ltb (length r) 128 h, type_export))

    pub types_is : call_of turn.session (answer_is turn.answer) w' t' ≡ types_call s section w t → (u ≡ packed (answer_is turn.answer)) × (r' ≡ record_after (answer_is turn.answer) turn.session.visits r) → export_of u r' w' t' ≡ types_export r section w t
    unfolding types_export answered_by call_of
    types_is e eu =
        (λ i. export_of (eu.0 i) (eu.1 i) w' t')
        ∙ ap (answered_by r) (e ∙ ap (λ (q : Session). types_call q section w t) es)
        ∙ sym (rw (le-ltb (length r) 128 h, types_export))

-- The list after one request. Assumes nothing.
use Prim.Native.Nat.{ℕ, ◌+◌, ◌-◌, ◌*◌, ◌≤◌}
use mathlib.Core.Path.{◌≡◌, refl, ap, ◌∙◌, sym}
use mathlib.Core.Bool.{Bool, true, false}
use mathlib.Core.List.{List, [], ◌∷◌}
use native.Mathlib.Omega.{arith}
use lib.ListN.{length, replicate, get_or, length-replicate, get_or-replicate}
use lib.Seq.{get_or-append-add}
use lib.Dec.{ltb}
use Rattle.spec_session.specs.declared.session.Session.{Session}
use Rattle.spec_session.specs.session.Answers.{number_of, answer_of}
use Rattle.spec_session.specs.session.Turns.{Call, is_current, settled, unchanged, table_for}
use Rattle.spec_session.specs.calls.Refusals.{not_current, id_not_below, number, refusal}
use Rattle.spec_session.specs.calls.Calls.{requested, type_call}
use Rattle.spec_c_dumper.specs.origins.Causes.{Entry, up_to, bytes_of, filled, entries_in}
use Rattle.spec_session.specs.origin_calls.Bytes.{CauseCall, requested_traced, settled_traced, left_alone, type_causes, CauseFits}
use Rattle.spec_session.proofs.origin_calls.Bytes.{type_fits}
use Rattle.spec_c_dumper.proofs.origins.Listed.{bytes_length}

-- ---- a request leaves the list alone, refused, or fills it
data View (c : Call) (d : CauseCall) (l : List ℕ) : Type 0 where
  alone : d.count ≡ 0 → (number_of c.answer ≡ 0 → ⊥) → View c d l
  full : (es : List Entry) → d.count ≡ length es → d.list ≡ filled (length l) es → View c d l

module _ (s : Session) (section work text : List ℕ) (id : ℕ) where
  view : (l : List ℕ) → View (type_call s section work text id) (type_causes s section work text id l) l
  unfolding type_causes type_call settled_traced number_of answer_of number
  view l = by (is_current s (length section) (length work) (length text)) (ltb id s.types)
    where
      by : (o b : Bool) → View
          (elim o [ false ↦ unchanged s (refusal not_current s.text_len) work text | true ↦ elim b [ false ↦ unchanged s (refusal id_not_below s.text_len) work text | true ↦ settled s (length work) (length text) (requested (table_for s section) section id s.text_len s.visits work text) ] ])
          (elim o [
            | false ↦ left_alone (unchanged s (refusal not_current s.text_len) work text) l
            | true ↦ elim b [
              | false ↦ left_alone (unchanged s (refusal id_not_below s.text_len) work text) l
              | true ↦ settled_traced s (length work) (length text) l (requested_traced (up_to (entries_in l)) (table_for s section) section id [] s.text_len s.visits work text)
            ]
          ]) l
      by false b = alone refl (λ e. let z : ◌≡◌ {A = ℕ} 11 0 = e in omega arith)
      by true false = alone refl (λ e. let z : ◌≡◌ {A = ℕ} 10 0 = e in omega arith)
      by true true = full (requested_traced (up_to (entries_in l)) (table_for s section) section id [] s.text_len s.visits work text).entries refl refl

  abbrev fit : CauseFits (type_call s section work text id) (λ l. type_causes s section work text id l)
  fit = type_fits s section work text id

  -- a long list of ones: what fills it leaves a zero
  ones : List ℕ
  ones = replicate (12 * (fit.need + length fit.entries + 1)) 1

  ones_long : length ones ≡ 12 * (fit.need + length fit.entries + 1)
  unfolding ones
  ones_long = length-replicate {A = ℕ} (12 * (fit.need + length fit.entries + 1)) 1

  ones_room : fit.need ≤ entries_in ones
  ones_room = let e : length ones ≡ 12 * (fit.need + length fit.entries + 1) = ones_long in omega arith

  not_filled : (es : List Entry) → length es ≡ length fit.entries → filled (length ones) es ≡ ones → ⊥
  unfolding filled ones
  not_filled es ee e =
      let n : length (bytes_of es) ≡ 12 * length es = bytes_length es in
      let o : length ones ≡ 12 * (fit.need + length fit.entries + 1) = ones_long in
      let z : get_or ones (length (bytes_of es) + 0) 0 ≡ 0 =
      ap (λ (x : List ℕ). get_or x (length (bytes_of es) + 0) 0) (sym e) ∙ get_or-append-add (bytes_of es) (replicate (length ones - 12 * length es) 0) 0 0 ∙ get_or-replicate (length ones - 12 * length es) 0 0 0 (omega arith) in
      let u : get_or ones (length (bytes_of es) + 0) 0 ≡ 1 = get_or-replicate (12 * (fit.need + length fit.entries + 1)) (length (bytes_of es) + 0) 1 0 (omega arith) in
      omega arith

  -- a request that leaves the list alone has no entries, and is refused
  pub quiet : fit.zeroed ≡ false → (fit.entries ≡ []) × (number_of (type_call s section work text id).answer ≡ 0 → ⊥)
  quiet z = go (view ones)
    where
      none : (es : List Entry) → length es ≡ 0 → es ≡ []
      none [] e = refl
      none (x ∷ es) e = absurd (omega arith)

      go : View (type_call s section work text id) (type_causes s section work text id ones) ones → (fit.entries ≡ []) × (number_of (type_call s section work text id).answer ≡ 0 → ⊥)
      go (alone e f) = (none fit.entries (sym (fit.counts ones ones_room) ∙ e), f)
      go (full es e f) = absurd (not_filled es (sym e ∙ fit.counts ones ones_room) (sym f ∙ fit.leaves z ones))

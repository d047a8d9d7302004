-- The end of a call by number, and of its refusal. Assumes nothing.
use Prim.Native.Nat.{ℕ, zero, suc}
use mathlib.Core.Path.{◌≡◌, refl, ap, ◌∙◌, sym}
use mathlib.Core.Bool.{true, false}
use mathlib.Core.List.{List}
use native.Mathlib.Omega.{arith}
use lib.ListN.{length, take, replicate}
use borrow.Author.Tests.{eq-eqb, ne_eqb}
use Rattle.std.specs.Prelude.{Option, Some, None, Result}
use Rattle.spec_bytes.specs.declared.refusal.Refusal.{Refusal}
use Rattle.spec_bytes.specs.Refusals.{refusal_number}
use Rattle.spec_session.specs.declared.session.Refused.{Refused}
use Rattle.spec_session.specs.declared.session.Session.{Session}
use Rattle.spec_session.specs.declared.session.Reached.{Reached}
use Rattle.spec_session.specs.session.Answers.{Answer, Accepted, Refused as refused_with, answer_is, answer_of, number_of, stop_number, value_of}
use Rattle.spec_session.specs.session.Turns.{call_of, reached, refused_by, reach_of, with_text, then_zeros, settled, visits_in}
use Rattle.spec_session.proofs.session.Laws.{refused_is, reach_accepted, reach_refused, zeros_twice}
use Rattle.session_record.specs.declared.numbered.NumberedReach.{NumberedReach}
use Rattle.session_record.specs.declared.numbered.NumberedTurn.{NumberedTurn}
use Rattle.session_record.specs.numbered.Numbered.{reach_by}
use Rattle.session_record.specs.record_words.Words.{packed}

-- ---- answers
pub packed_is : (n v : ℕ) → packed (refused_with n v) ≡ packed (answer_of n v)
unfolding packed number_of value_of answer_of
packed_is zero v = refl
packed_is (suc n) v = refl

-- no refusal has the number 0
some_number : (c : Refusal) → refusal_number c ≡ 0 → ⊥
unfolding answer_of
some_number c e = let z : ◌≡◌ {A = ℕ} 1 0 = ap told (refused_is c 0 ∙ ap (λ (n : ℕ). answer_of n 0) e) in absurd (omega arith)
  where
    told : Answer → ℕ
    told (Accepted v) = 0
    told (refused_with n v) = 1

-- ---- settle_number
module _ (r : NumberedReach) (w t : List ℕ) where
  by_none : r.number ≡ 0 → reach_by r w t ≡ reached r.len w t
  unfolding reach_by
  by_none h = rw (eq-eqb r.number 0 h, reach_by)

  by_number : (r.number ≡ 0 → ⊥) → reach_by r w t ≡ refused_by r.number r.len r.visits (take r.len t)
  unfolding reach_by
  by_number h = rw (ne_eqb r.number 0 h, reach_by)

module _ (s : Session) (r : NumberedReach) (w t t' : List ℕ) (et : t' ≡ then_zeros (length t) r.len t) (s' : Session) (turn : NumberedTurn) (e : turn ≡ record { session = s'; number = r.number; value = r.len }) where
  pub settles_none : r.number ≡ 0 → (v : ℕ) → v ≡ visits_in w → s' ≡ with_text s true r.len v
      → call_of turn.session (answer_of turn.number turn.value) w t' ≡ settled s (length w) (length t) (reach_by r w t)
  unfolding call_of settled
  settles_none z v ev es =
      (λ i. record { session = (ap (λ (q : NumberedTurn). q.session) e ∙ es ∙ ap (with_text s true r.len) ev) i; answer = answer_of (ap (λ (q : NumberedTurn). q.number) e i) (e i).value; work = w; text = et i })
      ∙ (λ i. record { session = with_text s true r.len (visits_in w); answer = answer_of (z i) r.len; work = w; text = then_zeros (length t) r.len t })
      ∙ ap (settled s (length w) (length t)) (sym (by_none r w t z))

  pub settles_number : (r.number ≡ 0 → ⊥) → (w' : List ℕ) → w' ≡ replicate (length w) 0 → s' ≡ with_text s false r.len r.visits
      → call_of turn.session (answer_of turn.number turn.value) w' t' ≡ settled s (length w) (length t) (reach_by r w t)
  unfolding call_of settled
  settles_number z w' ew es =
      (λ i. record { session = (ap (λ (q : NumberedTurn). q.session) e ∙ es) i; answer = answer_of (e i).number (e i).value; work = ew i; text = (et ∙ sym (zeros_twice (length t) r.len t)) i })
      ∙ ap (settled s (length w) (length t)) (sym (by_number r w t z))

-- ---- settle
-- where requests came to, by the number of their refusal
abbrev numbered_reach : Reached → ℕ → NumberedReach
numbered_reach r n = record { len = r.len; number = n; visits = r.visits }

reach_is : (r : Reached) (w t : List ℕ) → reach_by (numbered_reach r (stop_number r.stop)) w t ≡ reach_of r w t
reach_is r w t = go r.stop refl
  where
    go : (o : Option Refusal) → r.stop ≡ o → reach_by (numbered_reach r (stop_number r.stop)) w t ≡ reach_of r w t
    go None e = by_none (numbered_reach r (stop_number r.stop)) w t (ap stop_number e) ∙ sym (reach_accepted r w t e)
    go (Some c) e =
        by_number (numbered_reach r (stop_number r.stop)) w t (λ z. some_number c (sym (ap stop_number e) ∙ z))
        ∙ ap (λ (n : ℕ). refused_by n r.len r.visits (take r.len t)) (ap stop_number e)
        ∙ sym (reach_refused r w t c e)

pub settles_typed : (s : Session) (r : Reached) (w t : List ℕ) (k l n : ℕ) → n ≡ stop_number r.stop → (turn : NumberedTurn) (w' t' : List ℕ)
    → call_of turn.session (answer_of turn.number turn.value) w' t' ≡ settled s k l (reach_by (numbered_reach r n) w t) → turn.number ≡ n
    → (a : Result ℕ Refused) → answer_is a ≡ answer_of (stop_number r.stop) turn.value → call_of turn.session (answer_is a) w' t' ≡ settled s k l (reach_of r w t)
settles_typed s r w t k l n en turn w' t' e et a ea =
    (λ i. call_of turn.session ((ea ∙ ap (λ (m : ℕ). answer_of m turn.value) (sym (et ∙ en))) i) w' t')
    ∙ e
    ∙ ap (settled s k l) (ap (λ (m : ℕ). reach_by (numbered_reach r m) w t) en ∙ reach_is r w t)

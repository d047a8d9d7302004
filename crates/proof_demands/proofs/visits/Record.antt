-- While the session is open the record says what the work counts. Assumes nothing.
use Prim.Native.Nat.{ℕ, zero, suc, ◌%◌}
use native.Mathlib.Omega.{arith}
use mathlib.Core.Path.{◌≡◌, refl, ap, ◌∙◌, sym, subst}
use mathlib.Core.Bool.{Bool, true, false, true≢false}
use mathlib.Core.List.{List, [], ◌∷◌}
use lib.ListN.{length}
use lib.Dec.{eqb, ltb}
use borrow.Author.Tests.{eq-eqb, ltb-true, ltb-false}
use Rattle.spec_c_dumper.specs.rules.Machine.{Req}
use Rattle.spec_opening.specs.Causes.{opening_number}
use Rattle.spec_opening.specs.Opened.{Outcome, work_of}
use Rattle.spec_session.specs.declared.session.Session.{Session}
use Rattle.spec_session.specs.session.Answers.{number_of}
use Rattle.spec_session.specs.session.Turns.{Call, call_of, is_current, Reach, reached, refused_by, visits_in, settled}
use Rattle.spec_session.specs.calls.Calls.{opened_call, open_call, type_call, types_call}
use Rattle.spec_session.specs.calls.Lists.{then_next, list_from, list_call}
use Rattle.spec_session.proofs.calls.Laws.{opens_sound}
use Rattle.spec_session.proofs.calls.Claims.{type_settles, type_not_below, type_not_current, types_settle, types_not_current}
use Rattle.spec_session.proofs.calls.Lists.{counted_goes, counted_stops}
use Rattle.proof_demands.specs.demands.Session.{After, after_open, after_one, after_all, after_list}
use Rattle.proof_demands.proofs.demands.OpenedMemory.{opened_sane, no_visits}

-- of a session record, open or closed, and the work after a call
abbrev pub Says : Session → List ℕ → Type 0
Says S w = S.«open» ≡ true → S.visits ≡ visits_in w

settled_says : (S : Session) (wn tn : ℕ) (r : Reach) → Says (settled S wn tn r).session (settled S wn tn r).work
unfolding settled
settled_says S wn tn (reached len w t) o = refl
settled_says S wn tn (refused_by c len v t) o = absurd (true≢false (sym o))

abbrev SaysCall : Call → Type 0
SaysCall c = Says c.session c.work

module _ (s : List ℕ) (S : Session) (w t : List ℕ) (h : Says S w) where
  type_says : (id : ℕ) → SaysCall (type_call S s w t id)
  type_says id = by (is_current S (length s) (length w) (length t)) (ltb id S.types) refl refl
    where
      by : (q u : Bool) → is_current S (length s) (length w) (length t) ≡ q → ltb id S.types ≡ u → SaysCall (type_call S s w t id)
      by false u e f = subst SaysCall (sym (type_not_current S s w t id e)) h
      by true false e f = subst SaysCall (sym (type_not_below S s w t id e (ltb-false id S.types f))) h
      by true true e f = subst SaysCall (sym (type_settles S s w t id e (ltb-true id S.types f))) (settled_says S (length w) (length t) _)

  types_say : SaysCall (types_call S s w t)
  types_say = by (is_current S (length s) (length w) (length t)) refl
    where
      by : (q : Bool) → is_current S (length s) (length w) (length t) ≡ q → SaysCall (types_call S s w t)
      by false e = subst SaysCall (sym (types_not_current S s w t e)) h
      by true e = subst SaysCall (sym (types_settle S s w t e)) (settled_says S (length w) (length t) _)

  -- the first id of a list
  module _ (n x : ℕ) (ids : List ℕ) (ih : (S₁ : Session) (w₁ t₁ : List ℕ) → Says S₁ w₁ → SaysCall (list_from (suc n) S₁ s w₁ t₁ ids)) where
    abbrev c : Call
    c = type_call S s w t x

    abbrev rest : Call → Call
    rest d = list_from (suc n) d.session s d.work d.text ids

    first_says : SaysCall (then_next n c rest)
    unfolding call_of
    first_says = by (number_of c.answer) refl
      where
        by : (m : ℕ) → number_of c.answer ≡ m → SaysCall (then_next n c rest)
        by zero e = subst SaysCall (sym (counted_goes n c rest e)) (ih c.session c.work c.text (type_says x))
        by (suc m) e = subst SaysCall (sym (counted_stops n (suc m) c rest e (λ z. absurd (omega arith)))) (type_says x)

list_says : (s ids : List ℕ) (n : ℕ) (S : Session) (w t : List ℕ) → Says S w → SaysCall (list_from n S s w t ids)
unfolding list_from call_of
list_says s [] n S w t h = h
list_says s (x ∷ ids) n S w t h = first_says s S w t h n x ids (λ S₁ w₁ t₁ h₁. list_says s ids (suc n) S₁ w₁ t₁ h₁)

module _ (p modes : ℕ) (s : List ℕ) (n : ℕ) (ok : opening_number p s n ≡ 0) where
  -- opening counts none
  none_yet : 0 ≡ visits_in (work_of p modes s n)
  unfolding visits_in
  none_yet = sym (ap (λ (k : ℕ). k % 4294967296) (no_visits p modes s n ok (opened_sane p modes s n ok).some))

  open_says : (S : Session) (w t : List ℕ) → length w ≡ n → SaysCall (open_call S s w t p modes)
  unfolding open_call opened_call
  open_says S w t l =
      let e : eqb (opening_number p s (length w)) 0 ≡ true = eq-eqb (opening_number p s (length w)) 0 (ap (opening_number p s) l ∙ ok) in
      subst (λ (o : Outcome). SaysCall (opened_call S (length s) (length w) p modes o)) (sym (opens_sound p modes s w t e)) (λ o. none_yet ∙ ap (λ (k : ℕ). visits_in (work_of p modes s k)) (sym l))

  pub after_says : {c : Call} {rs : List Req} → After p modes s n c rs → SaysCall c
  unfolding list_call
  after_says (after_open S w t l z) = open_says S w t l
  after_says (after_one c rs a t f same id) = type_says s c.session c.work t (after_says a) id
  after_says (after_all c rs a t f same) = types_say s c.session c.work t (after_says a)
  after_says (after_list c rs a t f same ids) = list_says s ids 0 c.session c.work t (after_says a)

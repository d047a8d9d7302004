-- A list of ids that fits under a ceiling: the plain list, with a count that the ceiling allows, and both are the same under every larger ceiling. Assumes
-- nothing.
use Prim.Native.Nat.{ℕ, zero, suc, zero-le, ◌≤◌}
use mathlib.Core.Path.{◌≡◌, refl, ap, ◌∙◌, sym, subst}
use mathlib.Core.List.{List, [], ◌∷◌}
use native.Mathlib.Omega.{arith}
use Rattle.spec_session.specs.declared.session.Session.{Session}
use Rattle.spec_session.specs.session.Answers.{number_of}
use Rattle.spec_session.specs.session.Turns.{Call, call_of}
use Rattle.spec_session.specs.calls.Calls.{type_call}
use Rattle.spec_session.specs.calls.Lists.{then_next, list_from, list_call}
use Rattle.spec_session.proofs.calls.Claims.{number_is}
use Rattle.spec_session.proofs.calls.Lists.{counted_goes as plain_goes, counted_stops as plain_stops}
use Rattle.spec_session.specs.metered.Within.{CallWithin, type_call_within}
use Rattle.spec_session.specs.metered.Lists.{counted_within, list_from_within, list_call_within}
use Rattle.spec_session.proofs.metered.Claims.{type_fits}
use Rattle.spec_session.specs.metered.Fits.{FitsCeiling}
use Rattle.spec_session.proofs.metered.Laws.{counted_goes, counted_stops}

not_zero : (m : ℕ) → suc m ≡ 0 → ⊥
not_zero m e = absurd (omega arith)

-- the first call of a list is refused by 22, and so the list
first_22 : (n : ℕ) (d : CallWithin) (f : CallWithin → CallWithin) → (number_of (counted_within n d f).call.answer ≡ 22 → ⊥) → number_of d.call.answer ≡ 22 → ⊥
unfolding call_of
first_22 n d f q e = q (ap (λ (x : CallWithin). number_of x.call.answer) (counted_stops n 22 d f e (not_zero 21)) ∙ number_is 22 n)

module _ (c c' : ℕ) (i : c ≤ c') where
  module _ (n : ℕ) (d : CallWithin) (F F' : CallWithin → CallWithin) (G : Call → Call) (l : d.made ≤ c)
      (h : (number_of (F d).call.answer ≡ 22 → ⊥) → ((F d).call ≡ G d.call) × ((F d).made ≤ c) × (F' d ≡ F d)) where
    counted_fits : (number_of (counted_within n d F).call.answer ≡ 22 → ⊥) → ((counted_within n d F).call ≡ then_next n d.call G) × ((counted_within n d F).made ≤ c) × (counted_within n d F' ≡ counted_within n d F)
    counted_fits q = by (number_of d.call.answer) refl
      where
        by : (m : ℕ) → number_of d.call.answer ≡ m → ((counted_within n d F).call ≡ then_next n d.call G) × ((counted_within n d F).made ≤ c) × (counted_within n d F' ≡ counted_within n d F)
        by zero e =
            let r = h (λ z. q (ap (λ (x : CallWithin). number_of x.call.answer) (counted_goes n d F e) ∙ z)) in (
              ap (λ (x : CallWithin). x.call) (counted_goes n d F e) ∙ r.0 ∙ sym (plain_goes n d.call G e),
              subst (λ (x : CallWithin). x.made ≤ c) (sym (counted_goes n d F e)) r.1,
              counted_goes n d F' e ∙ r.2 ∙ sym (counted_goes n d F e),
            )
        by (suc m) e = (
          ap (λ (x : CallWithin). x.call) (counted_stops n (suc m) d F e (not_zero m)) ∙ sym (plain_stops n (suc m) d.call G e (not_zero m)),
          subst (λ (x : CallWithin). x.made ≤ c) (sym (counted_stops n (suc m) d F e (not_zero m))) l,
          counted_stops n (suc m) d F' e (not_zero m) ∙ sym (counted_stops n (suc m) d F e (not_zero m)),
        )

  pub list_from_fits : (section : List ℕ) (ids : List ℕ) (n : ℕ) (s : Session) (w t : List ℕ) (k : ℕ) → k ≤ c → (number_of (list_from_within c n s section w t ids k).call.answer ≡ 22 → ⊥)
      → ((list_from_within c n s section w t ids k).call ≡ list_from n s section w t ids) × ((list_from_within c n s section w t ids k).made ≤ c) × (list_from_within c' n s section w t ids k ≡ list_from_within c n s section w t ids k)
  unfolding list_from_within list_from
  list_from_fits section [] n s w t k l q = (refl, l, refl)
  list_from_fits section (x ∷ ids) n s w t k l q =
      let F : CallWithin → CallWithin = λ d. list_from_within c (suc n) d.call.session section d.call.work d.call.text ids d.made in
      let F' : CallWithin → CallWithin = λ d. list_from_within c' (suc n) d.call.session section d.call.work d.call.text ids d.made in
      let G : Call → Call = λ y. list_from (suc n) y.session section y.work y.text ids in
      let d : CallWithin = type_call_within c s section w t x k in
      let fits : FitsCeiling c (type_call s section w t x) (λ j. type_call_within j s section w t x k) = type_fits s section w t c x k l (first_22 n d F q) in
      let r = counted_fits n d F F' G fits.at_most (λ z. list_from_fits section ids (suc n) d.call.session d.call.work d.call.text d.made fits.at_most z) q in
      (r.0 ∙ ap (λ (y : Call). then_next n y G) fits.same_call, r.1, ap (λ (y : CallWithin). counted_within n y F') (fits.larger c' i) ∙ r.2)

pub list_fits : (c : ℕ) (s : Session) (section w t ids : List ℕ) → (number_of (list_call_within c s section w t ids).call.answer ≡ 22 → ⊥) → FitsCeiling c (list_call s section w t ids) (λ c'. list_call_within c' s section w t ids)
unfolding list_call_within list_call
list_fits c s section w t ids q =
    let here = list_from_fits c c (omega arith) section ids 0 s w t 0 zero-le q in
    record { same_call = here.0; at_most = here.1; larger = λ c' i. (list_from_fits c c' i section ids 0 s w t 0 zero-le q).2 }

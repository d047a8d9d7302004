-- What a call that is refused by 22 comes to: no other cause gives that number. Assumes nothing.
use Prim.Native.Nat.{ℕ, ◌+◌, ◌-◌, ◌≤◌}
use mathlib.Core.Path.{◌≡◌, refl, ap, ◌∙◌, sym}
use mathlib.Core.Bool.{Bool, true, false}
use mathlib.Core.List.{List}
use mathlib.Core.Logic.{⊎_elim}
use native.Mathlib.Omega.{arith}
use lib.ListN.{length, take}
use lib.Dec.{ltb}
use borrow.Author.Tests.{ltb-true, ltb-false}
use Rattle.std.proofs.lemmas.Bool.{cases_lt}
use Rattle.spec_session.specs.metered.Metered.{calls_in}
use Rattle.spec_session.specs.declared.session.Session.{Session}
use Rattle.spec_session.specs.session.Answers.{number_of}
use Rattle.spec_session.specs.session.Turns.{Call, is_current, Reach, refused_by, settled, table_for}
use Rattle.spec_session.specs.calls.Calls.{type_call, types_call}
use Rattle.spec_session.proofs.calls.Claims.{type_settles, type_current, type_not_below, type_not_current, types_not_current}
use Rattle.spec_session.specs.metered.Within.{CallWithin, requested_within, requested_from_within, settled_within, type_call_within, types_call_within}
use Rattle.spec_session.proofs.metered.Laws.{request_fits}
use Rattle.spec_session.proofs.metered.Claims.{type_22}
use Rattle.proof_calls.specs.ceilings.Ceilings.{Over}

module _ (S : Session) (section w t : List ℕ) where
  -- a single request: 11 and 10 did not come, and the call ends as every refusal that closes the session
  pub record TypeOver (c id k : ℕ) : Type 0 where
    pub current : is_current S (length section) (length w) (length t) ≡ true
    pub ended : (type_call_within c S section w t id k).call ≡ settled S (length w) (length t) (refused_by 22 S.text_len S.visits (take S.text_len t))

  pub type_over : (c id k : ℕ) → Over (type_call_within c S section w t id k).call → TypeOver c id k
  unfolding type_call_within type_call settled_within number_of
  type_over c id k o = by (is_current S (length section) (length w) (length t)) (ltb id S.types) refl refl
    where
      plainly : (m : ℕ) → (type_call_within c S section w t id k).call ≡ type_call S section w t id → number_of (type_call S section w t id).answer ≡ m → m ≡ 22
      plainly m e q = sym q ∙ ap (λ (y : Call). number_of y.answer) (sym e) ∙ o

      fits : is_current S (length section) (length w) (length t) ≡ true → ltb id S.types ≡ true → k + calls_in (table_for S section) section w id ≤ c → TypeOver c id k
      fits e f l =
          let on : type_call_within c S section w t id k ≡ settled_within S (length w) (length t) (requested_within c (table_for S section) section id S.text_len S.visits w t k) = rw (e, type_call_within, f) in
          let r : (type_call_within c S section w t id k).call ≡ type_call S section w t id =
          ap (λ (d : CallWithin). d.call) (on ∙ ap (settled_within S (length w) (length t)) (request_fits c (table_for S section) section id S.text_len S.visits w t k l))
          ∙ sym (type_settles S section w t id e (ltb-true id S.types f)) in
          let z = plainly _ r refl in
          absurd (⊎_elim (λ q. omega (arith, q, z)) (λ q. omega (arith, q.1, z)) (type_current S section w t id e (ltb-true id S.types f)).number_kept)

      by : (q u : Bool) → is_current S (length section) (length w) (length t) ≡ q → ltb id S.types ≡ u → TypeOver c id k
      by false u e f =
          let z = plainly 11 (rw (e, type_call_within, type_call) refl) (ap (λ (y : Call). number_of y.answer) (type_not_current S section w t id e)) in absurd (omega arith)
      by true false e f =
          let z = plainly 10 (rw (e, type_call_within, type_call, f) refl) (ap (λ (y : Call). number_of y.answer) (type_not_below S section w t id e (ltb-false id S.types f))) in absurd (omega arith)
      by true true e f = ⊎_elim
          (λ l. record { current = e; ended = ap (λ (d : CallWithin). d.call) (type_22 S section w t c id k e f l) })
          (λ l. fits e f l)
          (cases_lt c (k + calls_in (table_for S section) section w id))

  -- the request for all ids: 11 did not come
  abbrev pub every : ℕ → Reach
  every c = (requested_from_within c (table_for S section) section ((table_for S section).types - 1) 1 S.text_len w t 0).reach

  pub record TypesOver (c : ℕ) : Type 0 where
    pub current : is_current S (length section) (length w) (length t) ≡ true
    pub ended : (types_call_within c S section w t).call ≡ settled S (length w) (length t) (every c)

  pub types_over : (c : ℕ) → Over (types_call_within c S section w t).call → TypesOver c
  unfolding types_call_within types_call settled_within number_of
  types_over c o = by (is_current S (length section) (length w) (length t)) refl
    where
      by : (q : Bool) → is_current S (length section) (length w) (length t) ≡ q → TypesOver c
      by true e = record { current = e; ended = rw (e, types_call_within) refl }
      by false e =
          let r : (types_call_within c S section w t).call ≡ types_call S section w t = rw (e, types_call_within, types_call) refl in
          let z : ◌≡◌ {A = ℕ} 11 22 = sym (ap (λ (y : Call). number_of y.answer) (types_not_current S section w t e)) ∙ ap (λ (y : Call). number_of y.answer) (sym r) ∙ o in
          absurd (omega arith)

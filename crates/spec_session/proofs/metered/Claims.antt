-- "A request that fits under one ceiling gives the same text and count under every larger one": a call that is not refused by 22 is the plain call, with a
-- count that the ceiling allows, and both are the same under every larger ceiling. 22 comes with the ceiling as its count. Assumes nothing.
use Prim.Native.Nat.{ℕ, zero, suc, zero-le, ◌+◌, ◌-◌, ◌<◌, ◌≤◌}
use mathlib.Core.Path.{◌≡◌, refl, ap, ◌∙◌, sym, subst}
use mathlib.Core.Bool.{Bool, true, false}
use mathlib.Core.List.{List}
use mathlib.Core.Logic.{⊎_elim}
use native.Mathlib.Omega.{arith}
use lib.ListN.{length, take}
use lib.Dec.{ltb}
use Rattle.std.proofs.lemmas.Bool.{cases_lt}
use Rattle.spec_type_table.specs.declared.types.TypeTable.{TypeTable}
use Rattle.spec_session.specs.metered.Metered.{calls_in}
use Rattle.spec_session.specs.declared.session.Session.{Session}
use Rattle.spec_session.specs.session.Answers.{number_of}
use Rattle.spec_session.specs.session.Turns.{Call, is_current, Reach, reached, refused_by, settled, table_for, visits_in}
use Rattle.spec_session.specs.calls.Calls.{requested, onward, requested_from, type_call, types_call}
use Rattle.spec_session.proofs.calls.Claims.{number_is}
use Rattle.spec_session.specs.metered.Within.{Within, requested_within, onward_within, requested_from_within, CallWithin, settled_within, type_call_within, types_call_within}
use Rattle.spec_session.specs.metered.Fits.{FitsCeiling}
use Rattle.spec_session.proofs.metered.Laws.{request_fits, request_over}

-- requests that were not refused by 22
abbrev Fine : Reach → Type 0
Fine q = (len v : ℕ) (t : List ℕ) → q ≡ refused_by 22 len v t → ⊥

pub settled_22 : (s : Session) (wn tn len v : ℕ) (t : List ℕ) → number_of (settled s wn tn (refused_by 22 len v t)).answer ≡ 22
unfolding settled
settled_22 s wn tn len v t = number_is 22 len

fine_settled : (s : Session) (wn tn : ℕ) (q : Reach) → (number_of (settled s wn tn q).answer ≡ 22 → ⊥) → Fine q
fine_settled s wn tn q n len v t e = n (ap (λ (p : Reach). number_of (settled s wn tn p).answer) e ∙ settled_22 s wn tn len v t)

-- ---- n ids in a row
pub record Fit (c c' : ℕ) (a a' : Within) (q : Reach) : Type 0 where
  pub same_reach : a.reach ≡ q
  pub few : a.made ≤ c
  pub same_within : a' ≡ a

module _ (c c' : ℕ) (l : c ≤ c') where
  onward_fits : (F F' : ℕ → List ℕ → List ℕ → ℕ → Within) (G : ℕ → List ℕ → List ℕ → Reach) (j : ℕ) → j ≤ c
      → ((len : ℕ) (w t : List ℕ) → Fine (F len w t j).reach → Fit c c' (F len w t j) (F' len w t j) (G len w t))
      → (q : Reach) → Fine (onward_within q j F).reach → Fit c c' (onward_within q j F) (onward_within q j F') (onward q G)
  unfolding onward_within onward
  onward_fits F F' G j i h (reached len w t) n = h len w t n
  onward_fits F F' G j i h (refused_by e len v t) n = record { same_reach = refl; few = i; same_within = refl }

  module _ (b : TypeTable) (s : List ℕ) where
    pub one_fits : (id len v : ℕ) (w t : List ℕ) (k : ℕ) → Fine (requested_within c b s id len v w t k).reach → k + calls_in b s w id ≤ c
    one_fits id len v w t k n = ⊎_elim (λ i. absurd (n len v (take len t) (ap (λ (a : Within). a.reach) (request_over c b s id len v w t k i)))) (λ i. i) (cases_lt c (k + calls_in b s w id))

    first_fine : (F : ℕ → List ℕ → List ℕ → ℕ → Within) (a : Within) → Fine (onward_within a.reach a.made F).reach → Fine a.reach
    unfolding onward_within
    first_fine F a n len v t e = n len v t (ap (λ (q : Reach). (onward_within q a.made F).reach) e)

    pub from_fits : (n id len : ℕ) (w t : List ℕ) (k : ℕ) → k ≤ c → Fine (requested_from_within c b s n id len w t k).reach
        → Fit c c' (requested_from_within c b s n id len w t k) (requested_from_within c' b s n id len w t k) (requested_from b s n id len w t)
    unfolding requested_from_within requested_from
    from_fits zero id len w t k i h = record { same_reach = refl; few = i; same_within = refl }
    from_fits (suc n) id len w t k i h =
        let f : k + calls_in b s w id ≤ c = one_fits id len (visits_in w) w t k (first_fine (requested_from_within c b s n (suc id)) (requested_within c b s id len (visits_in w) w t k) h) in
        let e = request_fits c b s id len (visits_in w) w t k f in
        let e' = request_fits c' b s id len (visits_in w) w t k (omega arith) in
        let r = onward_fits (requested_from_within c b s n (suc id)) (requested_from_within c' b s n (suc id)) (requested_from b s n (suc id)) (k + calls_in b s w id) f
        (λ len' w' t' h'. from_fits n (suc id) len' w' t' (k + calls_in b s w id) f h') (requested b s id len (visits_in w) w t)
        (subst (λ (a : Within). Fine (onward_within a.reach a.made (requested_from_within c b s n (suc id))).reach) e h) in
        record {
          same_reach = ap (λ (a : Within). (onward_within a.reach a.made (requested_from_within c b s n (suc id))).reach) e ∙ r.same_reach;
          few = subst (λ (a : Within). (onward_within a.reach a.made (requested_from_within c b s n (suc id))).made ≤ c) (sym e) r.few;
          same_within = ap (λ (a : Within). onward_within a.reach a.made (requested_from_within c' b s n (suc id))) e' ∙ r.same_within
              ∙ sym (ap (λ (a : Within). onward_within a.reach a.made (requested_from_within c b s n (suc id))) e);
        }

-- ---- the calls
module _ (s : Session) (section w t : List ℕ) where
  abbrev ends : Reach → Call
  ends q = settled s (length w) (length t) q

  type_on : (id k : ℕ) → is_current s (length section) (length w) (length t) ≡ true → ltb id s.types ≡ true → (c : ℕ)
      → type_call_within c s section w t id k ≡ settled_within s (length w) (length t) (requested_within c (table_for s section) section id s.text_len s.visits w t k)
  unfolding type_call_within
  type_on id k e f c = rw (e, type_call_within, f)

  plain_on : (id : ℕ) → is_current s (length section) (length w) (length t) ≡ true → ltb id s.types ≡ true → type_call s section w t id ≡ ends (requested (table_for s section) section id s.text_len s.visits w t)
  unfolding type_call
  plain_on id e f = rw (e, type_call, f)

  type_by : (c id k : ℕ) → k ≤ c → (q u : Bool) → is_current s (length section) (length w) (length t) ≡ q → ltb id s.types ≡ u → (number_of (type_call_within c s section w t id k).call.answer ≡ 22 → ⊥)
      → FitsCeiling c (type_call s section w t id) (λ c'. type_call_within c' s section w t id k)
  unfolding type_call_within type_call settled_within
  type_by c id k l false u e f n = record { same_call = rw (e, type_call_within, type_call) refl; at_most = rw (e, type_call_within) l; larger = λ c' i. rw (e, type_call_within) refl }
  type_by c id k l true false e f n = record { same_call = rw (e, type_call_within, type_call, f) refl; at_most = rw (e, type_call_within, f) l; larger = λ c' i. rw (e, type_call_within, f) refl }
  type_by c id k l true true e f n =
      let on = type_on id k e f in
      let fine : Fine (requested_within c (table_for s section) section id s.text_len s.visits w t k).reach = fine_settled s (length w) (length t) _ (λ z. n (ap (λ (d : CallWithin). number_of d.call.answer) (on c) ∙ z)) in
      let few = one_fits c c (omega arith) (table_for s section) section id s.text_len s.visits w t k fine in
      let at : (c' : ℕ) → c ≤ c' → type_call_within c' s section w t id k ≡ record { call = ends (requested (table_for s section) section id s.text_len s.visits w t); made = k + calls_in (table_for s section) section w id } =
      λ c' i. on c' ∙ ap (settled_within s (length w) (length t)) (request_fits c' (table_for s section) section id s.text_len s.visits w t k (omega (arith, few))) in
      record {
        same_call = ap (λ (d : CallWithin). d.call) (at c (omega arith)) ∙ sym (plain_on id e f);
        at_most = subst (λ (d : CallWithin). d.made ≤ c) (sym (at c (omega arith))) few;
        larger = λ c' i. at c' i ∙ sym (at c (omega arith));
      }

  pub type_fits : (c id k : ℕ) → k ≤ c → (number_of (type_call_within c s section w t id k).call.answer ≡ 22 → ⊥) → FitsCeiling c (type_call s section w t id) (λ c'. type_call_within c' s section w t id k)
  type_fits c id k l n = type_by c id k l (is_current s (length section) (length w) (length t)) (ltb id s.types) refl refl n

  abbrev every : ℕ → Within
  every c = requested_from_within c (table_for s section) section ((table_for s section).types - 1) 1 s.text_len w t 0

  types_on : is_current s (length section) (length w) (length t) ≡ true → (c : ℕ) → types_call_within c s section w t ≡ settled_within s (length w) (length t) (every c)
  unfolding types_call_within
  types_on e c = rw (e, types_call_within)

  types_by : (c : ℕ) (q : Bool) → is_current s (length section) (length w) (length t) ≡ q → (number_of (types_call_within c s section w t).call.answer ≡ 22 → ⊥) → FitsCeiling c (types_call s section w t) (λ c'. types_call_within c' s section w t)
  unfolding types_call_within types_call settled_within
  types_by c false e n = record { same_call = rw (e, types_call_within, types_call) refl; at_most = rw (e, types_call_within) zero-le; larger = λ c' i. rw (e, types_call_within) refl }
  types_by c true e n =
      let on = types_on e in
      let fine : Fine (every c).reach = fine_settled s (length w) (length t) (every c).reach (λ z. n (ap (λ (d : CallWithin). number_of d.call.answer) (on c) ∙ z)) in
      let fit : (c' : ℕ) → c ≤ c' → Fit c c' (every c) (every c') (requested_from (table_for s section) section ((table_for s section).types - 1) 1 s.text_len w t) =
      λ c' i. from_fits c c' i (table_for s section) section ((table_for s section).types - 1) 1 s.text_len w t 0 zero-le fine in
      record {
        same_call = ap (λ (d : CallWithin). d.call) (on c) ∙ ap ends (fit c (omega arith)).same_reach ∙ sym (rw (e, types_call));
        at_most = subst (λ (d : CallWithin). d.made ≤ c) (sym (on c)) (fit c (omega arith)).few;
        larger = λ c' i. on c' ∙ ap (settled_within s (length w) (length t)) (fit c' i).same_within ∙ sym (on c);
      }

  pub types_fits : (c : ℕ) → (number_of (types_call_within c s section w t).call.answer ≡ 22 → ⊥) → FitsCeiling c (types_call s section w t) (λ c'. types_call_within c' s section w t)
  types_fits c n = types_by c (is_current s (length section) (length w) (length t)) refl n

-- "22 when one more call would pass the ceiling": the count is the ceiling, and the call ends as every refusal that closes the session
pub type_22 : (s : Session) (section w t : List ℕ) (c id k : ℕ) → is_current s (length section) (length w) (length t) ≡ true → ltb id s.types ≡ true → c < k + calls_in (table_for s section) section w id
    → type_call_within c s section w t id k ≡ record { call = settled s (length w) (length t) (refused_by 22 s.text_len s.visits (take s.text_len t)); made = c }
unfolding settled_within
type_22 s section w t c id k e f l = type_on s section w t id k e f c ∙ ap (settled_within s (length w) (length t)) (request_over c (table_for s section) section id s.text_len s.visits w t k l)

-- Where no call was ended by what it carried, each is the plain call. Assumes nothing.
use Prim.Native.Nat.{ℕ}
use mathlib.Core.Path.{◌≡◌, refl, sym, subst}
use mathlib.Core.List.{List, [], ◌∷◌, ◌++◌}
use mathlib.Core.Logic.{⊎_elim}
use lib.ListN.{length}
use Rattle.std.proofs.lemmas.Bool.{cases_lt}
use Rattle.spec_c_dumper.specs.rules.Machine.{Req, one, all}
use Rattle.spec_session.specs.declared.session.Session.{Session}
use Rattle.spec_session.specs.session.Answers.{number_of}
use Rattle.spec_session.specs.session.Turns.{Call}
use Rattle.spec_session.specs.calls.Calls.{type_call, types_call}
use Rattle.spec_session.specs.calls.Lists.{list_call}
use Rattle.proof_demands.specs.demands.Session.{singles_for, made, After, after_open, after_one, after_all, after_list}
use Rattle.spec_c_dumper.specs.origins.Causes.{entries_in}
use Rattle.spec_session.specs.origin_calls.Bytes.{CauseCall, CauseFits}
use Rattle.spec_session.proofs.origin_calls.Bytes.{type_fits, types_fits}
use Rattle.proof_calls.proofs.list_fits.Fits.{list_fits}
use Rattle.proof_calls.specs.ceilings.Ceilings.{up_to}
use Rattle.proof_calls.proofs.ceilings.Plain.{type_plain as type_under, types_plain as types_under, list_plain as list_under}
use Rattle.proof_calls.specs.mixed.Mixed.{Aid, none, ceiling, list, type_with, types_with, list_with, Goes, With, with_open, with_one, with_all, with_list}

-- a list that has room
fits_plain : (c : Call) (F : List ℕ → CauseCall) → CauseFits c F → (l : List ℕ) → (number_of (F l).call.answer ≡ 17 → ⊥) → (F l).call ≡ c
fits_plain c F h l q = ⊎_elim (λ r. absurd (q (h.short l r))) (λ r. h.same l r) (cases_lt (entries_in l) h.need)

module _ (s : List ℕ) (S : Session) (w t : List ℕ) where
  pub type_plain : (a : Aid) (id : ℕ) → Goes a (type_with a S s w t id) → type_with a S s w t id ≡ type_call S s w t id
  type_plain none id q = refl
  type_plain (ceiling k) id q = type_under s S w t (up_to k) id q
  type_plain (list l) id q = fits_plain (type_call S s w t id) _ (type_fits S s w t id) l q

  pub types_plain : (a : Aid) → Goes a (types_with a S s w t) → types_with a S s w t ≡ types_call S s w t
  types_plain none q = refl
  types_plain (ceiling k) q = types_under s S w t (up_to k) q
  types_plain (list l) q = fits_plain (types_call S s w t) _ (types_fits S s w t) l q

  pub list_plain : (a : Aid) (ids : List ℕ) → Goes a (list_with a S s w t ids) → list_with a S s w t ids ≡ list_call S s w t ids
  list_plain none ids q = refl
  list_plain (ceiling k) ids q = list_under s S w t (up_to k) ids q
  list_plain (list l) ids q = fits_plain (list_call S s w t ids) _ (list_fits S s w t ids) l q

pub with_plain : (p modes : ℕ) (s : List ℕ) (n : ℕ) {c : Call} {rs : List Req} → With p modes s n c rs → After p modes s n c rs
with_plain p modes s n (with_open S work text z q) = after_open S work text z q
with_plain p modes s n (with_one c rs u text lent a id q) =
    subst (λ (y : Call). After p modes s n y (rs ++ (one (length text) id ∷ []))) (sym (type_plain s c.session c.work text a id q))
    (after_one c rs (with_plain p modes s n u) text lent.long lent.begins id)
with_plain p modes s n (with_all c rs u text lent a q) =
    subst (λ (y : Call). After p modes s n y (rs ++ (all (length text) ∷ []))) (sym (types_plain s c.session c.work text a q))
    (after_all c rs (with_plain p modes s n u) text lent.long lent.begins)
with_plain p modes s n (with_list c rs u text lent a ids q) =
    subst (λ (y : Call). After p modes s n y (rs ++ singles_for (length text) (made 0 y) ids)) (sym (list_plain s c.session c.work text a ids q))
    (after_list c rs (with_plain p modes s n u) text lent.long lent.begins ids)

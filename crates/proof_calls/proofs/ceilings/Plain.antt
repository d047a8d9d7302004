-- Where no 22 came, each call is the plain call. Assumes nothing.
use Prim.Native.Nat.{ℕ, zero-le}
use mathlib.Core.Path.{◌≡◌, refl}
use mathlib.Core.List.{List}
use Rattle.spec_session.specs.declared.session.Session.{Session}
use Rattle.spec_session.specs.calls.Calls.{type_call, types_call}
use Rattle.spec_session.specs.calls.Lists.{list_call}
use Rattle.spec_session.proofs.metered.Claims.{type_fits, types_fits}
use Rattle.spec_session.proofs.metered.ListClaims.{list_fits}
use Rattle.proof_calls.specs.ceilings.Ceilings.{Ceiling, none, up_to, type_under, types_under, list_under, NotOver}

module _ (s : List ℕ) (S : Session) (w t : List ℕ) where
  pub type_plain : (l : Ceiling) (id : ℕ) → NotOver (type_under l S s w t id) → type_under l S s w t id ≡ type_call S s w t id
  type_plain none id q = refl
  type_plain (up_to k) id q = (type_fits S s w t k id 0 zero-le q).same_call

  pub types_plain : (l : Ceiling) → NotOver (types_under l S s w t) → types_under l S s w t ≡ types_call S s w t
  types_plain none q = refl
  types_plain (up_to k) q = (types_fits S s w t k q).same_call

  pub list_plain : (l : Ceiling) (ids : List ℕ) → NotOver (list_under l S s w t ids) → list_under l S s w t ids ≡ list_call S s w t ids
  list_plain none ids q = refl
  list_plain (up_to k) ids q = (list_fits k S s w t ids q).same_call

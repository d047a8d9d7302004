-- A lent list after some requests: filled, or left as it was; and some requests after others. Assumes nothing.
use Prim.Native.Nat.{ℕ, ◌-◌, ◌*◌, ◌≤◌}
use mathlib.Core.Path.{◌≡◌, refl, ap, ◌∙◌, sym, subst}
use mathlib.Core.Bool.{Bool, true, false}
use mathlib.Core.List.{List, [], ◌++◌, append-nil}
use native.Mathlib.Omega.{arith}
use lib.ListN.{length, take, drop, length-drop, take-append-drop}
use Rattle.spec_c_dumper.specs.origins.Causes.{Entry, filled}
use Rattle.spec_c_dumper.specs.origins.Claims.{Listed}
use Rattle.spec_c_dumper.proofs.origins.Listed.{listed_fits, listed_both}

-- the list l after requests with these entries, which zeroed what follows them; or with none, and then z says whether one before them did
pub data Listing (l : List ℕ) (z : Bool) : List Entry → List ℕ → Bool → Type 0 where
  fills : (es : List Entry) (a : List ℕ) → Listed (length l) es a → Listing l z es a true
  leaves : Listing l z [] l z

pub listing_size : {l : List ℕ} {z y : Bool} {es : List Entry} {a : List ℕ} → Listing l z es a y → (length a ≡ length l) × (12 * length es ≤ length l)
listing_size {l} (fills es a h) = (h.size, listed_fits (length l) es a h)
listing_size leaves = (refl, omega arith)

-- what the rules say of it
pub listing_is : (l : List ℕ) (fs : List Entry) {y : Bool} {es : List Entry} {a : List ℕ} → Listing l false es a y → fs ≡ es → a ≡ elim y [ true ↦ filled (length l) fs | false ↦ l ]
unfolding filled
listing_is l fs (fills es a h) e = h.is ∙ ap (filled (length l)) (sym e)
listing_is l fs leaves e = refl

-- entries gs in what follows the entries es
module _ (l : List ℕ) (z : Bool) where
  behind_full : (es gs : List Entry) (a c : List ℕ) (y : Bool) → Listed (length l) es a → Listing (drop (length es * 12) a) true gs c y → Listing l z (es ++ gs) (take (length es * 12) a ++ c) y
  behind_full es gs a c y h (fills _ _ k) =
      fills (es ++ gs) (take (length es * 12) a ++ c) (listed_both (length l) es a h (length (drop (length es * 12) a)) (length-drop (length es * 12) a ∙ ap (λ (m : ℕ). m - length es * 12) h.size) gs c k)
  behind_full es _ a _ _ h leaves =
      subst (λ (x : List ℕ). Listing l z (es ++ []) x true) (sym (take-append-drop (length es * 12) a)) (subst (λ (fs : List Entry). Listing l z fs a true) (sym (append-nil es)) (fills es a h))

  pub listing_then : {es gs : List Entry} {a c : List ℕ} {y y' : Bool} → Listing l z es a y → Listing (drop (length es * 12) a) y gs c y' → Listing l z (es ++ gs) (take (length es * 12) a ++ c) y'
  listing_then {gs = gs} {c = c} {y' = y'} (fills es a h) k = behind_full es gs a c y' h k
  listing_then leaves k = k

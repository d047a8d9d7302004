-- A name that there is no room for is refused by as much of it as is a byte more than the room. Assumes nothing.
use Prim.Native.Nat.{ℕ, zero, suc, min, ◌+◌, ◌-◌, ◌<◌, ◌≤◌}
use mathlib.Core.Path.{◌≡◌, refl, ap, ◌∙◌, sym}
use mathlib.Core.List.{List, [], ◌∷◌}
use mathlib.Core.Logic.{⊎_elim}
use native.Mathlib.Omega.{arith}
use lib.ListN.{length, take, drop}
use Rattle.std.specs.Prelude.{Ok}
use Rattle.std.proofs.lemmas.Bool.{cases_lt}
use Rattle.std.proofs.lemmas.List.{take_all, length-take-le}
use Rattle.spec_bytes.specs.text.Text.{whole, bytes}
use Rattle.spec_bytes.specs.text.Placed.{Placed, put_out, put_text}
use Rattle.spec_bytes.proofs.text.TextLaws.{put_none}
use Rattle.spec_type_table.specs.declared.types.TypeTable.{TypeTable}
use Rattle.spec_type_table.specs.Names.{up_to_zero, name_at, name_place, str_at}

up_within : (k : ℕ) (l : List ℕ) → up_to_zero (take k l) ≡ take k (up_to_zero l)
unfolding up_to_zero
up_within zero l = refl
up_within (suc k) [] = refl
up_within (suc k) (zero ∷ l) = refl
up_within (suc k) (suc x ∷ l) = ap (λ (m : List ℕ). suc x ∷ m) (up_within k l)

module _ (t : List ℕ) (at : ℕ) where
  abbrev Same : List ℕ → List ℕ → Type 0
  Same u v = put_text t (Ok at) (whole u) ≡ put_text t (Ok at) (whole v)

  put_part : (k : ℕ) (v : List ℕ) → length t - at < k → Same (take k v) v
  unfolding bytes
  put_part k v h = ⊎_elim over all (cases_lt k (length v))
    where
      all : length v ≤ k → Same (take k v) v
      all m = ap (λ (u : List ℕ). put_text t (Ok at) (whole u)) (take_all k v m)

      over : k < length v → Same (take k v) v
      over m =
          put_none t at (whole (take k v)) (omega (arith, length-take-le k v (omega arith)))
          ∙ sym (put_none t at (whole v) (omega arith))

  pub put_near : (b : TypeTable) (s : List ℕ) (off : ℕ) (n : ℕ) (r : List ℕ) (p : Placed) (u : List ℕ) → put_out p u ≡ put_text t (Ok at) (whole (up_to_zero (take n r))) → n ≡ min (length r) (length t - at + 1) → r ≡ drop (name_place b off) s → put_out p u ≡ put_text t (Ok at) (whole (str_at b s off))
  unfolding name_at
  put_near b s off n r p u o e er = o ∙ ⊎_elim cut all (cases_lt (length t - at) n) ∙ ap (λ (l : List ℕ). put_text t (Ok at) (whole (up_to_zero l))) er
    where
      cut : length t - at < n → Same (up_to_zero (take n r)) (up_to_zero r)
      cut m = ap (λ (l : List ℕ). put_text t (Ok at) (whole l)) (up_within n r) ∙ put_part n (up_to_zero r) m

      all : n ≤ length t - at → Same (up_to_zero (take n r)) (up_to_zero r)
      all m = ap (λ (l : List ℕ). put_text t (Ok at) (whole (up_to_zero l))) (take_all n r (omega arith))

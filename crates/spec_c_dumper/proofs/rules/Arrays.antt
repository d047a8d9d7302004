-- The setting for arrays behind pointers, in the rule of ordering.
use Prim.Native.Nat.{ℕ}
use mathlib.Core.Path.{◌≡◌, refl, ap}
use mathlib.Core.Bool.{Bool, true, false, not, ◌&&◌}
use Rattle.spec_c_dumper.specs.rules.Order.{through, Table, Store, Res, fresh}

module _ {St : Type 0} (K : Store St) (T : Table) (rec : St → ℕ → Bool → Res St) (s : St) (x : ℕ) (weak : Bool) where
  -- "Equality with the Rust is claimed only with the setting off": then what is passed, an array too, hands the way on as it is
  pub passed_as_before : T.strong_arrays ≡ false → (a : Bool) (t : ℕ) → fresh K T rec s x weak (through a t) ≡ rec s t weak
  unfolding fresh
  passed_as_before e true t = ap (λ (k : Bool). rec s t (not k && weak)) e
  passed_as_before e false t = refl

  -- "passing an array forgets pointers passed before it"
  pub array_forgets : T.strong_arrays ≡ true → (t : ℕ) → fresh K T rec s x weak (through true t) ≡ rec s t false
  unfolding fresh
  array_forgets e t = ap (λ (k : Bool). rec s t (not k && weak)) e

-- For callers: what a request comes to fits, and the limit lies between. Assumes nothing.
use Prim.Native.Nat.{ℕ, ◌+◌, ◌-◌, ◌<◌, ◌≤◌}
use mathlib.Core.Path.{◌≡◌, refl, ap}
use mathlib.Core.Logic.{⊎_elim}
use native.Mathlib.Omega.{arith}
use borrow.Author.Tests.{le-leb}
use Rattle.std.proofs.lemmas.Bool.{cases_lt}
use Rattle.std.specs.Prelude.{None, Ok, Err}
use Rattle.spec_bytes.specs.declared.refusal.Refusal.{Refusal}
use Rattle.spec_session.specs.declared.session.Reached.{Reached}
use Rattle.spec_session.specs.calls.Calls.{limit_of, arrived_at}
use Rattle.spec_session.proofs.calls.Laws.{limit_short, limit_long, limit_none, limit_between}
use Rattle.session_record.specs.arrival.Arrival.{clipped, arrived_in}

pub clip_fits : (n : ℕ) → n < 4294967296 → clipped n ≡ n
unfolding clipped
clip_fits n h = rw (le-leb n 4294967295 (omega arith), clipped)

-- "text over 1,073,741,824 bytes" is refused
pub arrived_accepted : (len v at : ℕ) → len + at < 4294967296 → arrived_in len v (Ok at) ≡ arrived_at len v (Ok at)
unfolding arrived_in arrived_at
arrived_accepted len v at h = ap {B = Reached} (λ (n : ℕ). record { len = n; stop = None; visits = v }) (clip_fits (len + at) h)

pub arrived_refused : (len v : ℕ) (c : Refusal) → arrived_in len v (Err c) ≡ arrived_at len v (Err c)
unfolding arrived_in arrived_at
arrived_refused len v c = refl

-- ---- the slice that a request is lent
module _ (n len to : ℕ) (el : to ≡ limit_of n len) (h : len ≤ n) where
  pub from_to : len ≤ to
  from_to = omega (arith, el, (limit_between n len h).0)

  pub to_end : to ≤ n
  to_end = omega (arith, el, (limit_between n len h).1)

  pub room_fits : to - len ≤ 1073741824 - len
  room_fits =
      ⊎_elim
      (λ l. ⊎_elim (λ k. omega (arith, el, limit_none n len l k)) (λ k. omega (arith, el, limit_long n len l k)) (cases_lt 1073741824 len))
      (λ l. omega (arith, el, limit_short n len l))
      (cases_lt 1073741824 n)

-- `arrived_at` of calls/specs in numbers of 32 bits. What a request comes to always fits (`arrived_accepted` of proofs/Arrival), so
-- nothing is lost.
use Rattle.std.specs.Prelude.{ℕ, ◌+◌, true, false, leb, Some, None, Ok, Err}
use Rattle.spec_bytes.specs.text.Placed.{Placed}
use Rattle.spec_session.specs.declared.session.Reached.{Reached}

unfoldable pub clipped : ℕ → ℕ
clipped n = elim (leb n 4294967295) [ true ↦ n | false ↦ 4294967295 ]

unfoldable pub arrived_in : ℕ → ℕ → Placed → Reached
arrived_in len v (Ok at) = record { len = clipped (len + at); stop = None; visits = v }
arrived_in len v (Err c) = record { len = len; stop = Some c; visits = v }

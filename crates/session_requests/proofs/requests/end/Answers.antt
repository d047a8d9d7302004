use native.Mathlib.Omega.{arith}
use Rattle.session_requests.proofs.requests.Laws as laws
use Rattle.session_requests.proofs.requests.end.Goals as goal

pub returns : goal.returns
returns c = laws.ended_is _ _ _ _ _ (λ i. omega (arith, c.slice_known-3-1.given i)) c.requires _ _ _ _ c.settle-turn.ensures c.clear_from.ensures

use Rattle.session_requests.proofs.requests.Laws as laws
use Rattle.session_requests.proofs.call.Call.requests.Goals as goal

pub invariant_of-result : goal.invariant_of-result
invariant_of-result c = record { few = laws.few_settings _ _ _ _ _ c.btf_of-head.ensures }

use Rattle.session_requests.proofs.options.Cases as cases
use Rattle.session_requests.proofs.requests.Laws as laws
use Rattle.session_requests.proofs.call.Call.request_listed.Goals as goal

pub request_with-requires : goal.request_with-requires
request_with-requires c = laws.ready_same _ _ _ _ c.requires cases.listed_asks

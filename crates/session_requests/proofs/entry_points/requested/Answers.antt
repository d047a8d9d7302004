use Rattle.session_requests.proofs.options.Cases as cases
use Rattle.session_requests.proofs.entry_points.requested.Goals as goal

pub returns : goal.returns
returns c = cases.same_call _ _ _ _ _ c.request.ensures

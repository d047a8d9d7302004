use Rattle.session_requests.proofs.options.Cases as cases
use Rattle.session_requests.proofs.entry_points.dump_type.Goals as goal

pub returns : goal.returns
returns c = cases.only_type _ _ _ _ _ _ _ c.requested.ensures

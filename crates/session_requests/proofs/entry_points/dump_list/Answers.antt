use Rattle.session_requests.proofs.options.Cases as cases
use Rattle.session_requests.proofs.entry_points.dump_list.Goals as goal

pub returns : goal.returns
returns c = cases.only_list _ _ _ _ _ _ _ c.requested.ensures

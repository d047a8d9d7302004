use Rattle.session_requests.proofs.requests.Lists as lists
use Rattle.session_requests.proofs.requests.clear_if.Goals as goal

pub returns-in-Listed : goal.returns-in-Listed
returns-in-Listed c = lists.zeroed_text _ _ _ c.in-Listed.is _ c.clear_from.ensures

pub returns-in-Plain : goal.returns-in-Plain
returns-in-Plain c = lists.kept_text _ _ _ c.in-Plain.is

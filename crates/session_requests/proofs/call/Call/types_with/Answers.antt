use mathlib.Core.Bool.{not}
use mathlib.Core.Path.{ap}
use Rattle.spec_session.proofs.session.Laws as ends
use Rattle.session_requests.proofs.requests.Laws as laws
use Rattle.session_requests.proofs.call.Call.types_with.Goals as goal

pub returns-then-not-is_current : goal.returns-then-not-is_current
returns-then-not-is_current c = laws.types_11 _ _ _ _ _ _ _ c.is_current.ensures (ap not c.if-not-is_current.true) _ c.unchanged.ensures

pub dump_all-r-requires : goal.dump_all-r-requires
dump_all-r-requires c = (ends.current_fits _ _ _ _ _ c.is_current.ensures (ap not c.if-not-is_current.false), laws.ready_same _ _ _ _ c.requests-requests.ensures.2 c.requires)

pub returns : goal.returns
returns c = laws.types_done _ _ _ _ _ _ _ c.is_current.ensures (ap not c.if-not-is_current.false) _ c.requests-requests.ensures.0 _ c.requests-requests.ensures.1 _ c.requests-requests.ensures.2 _ _ _ _ c.dump_all-r.auto.work c.dump_all-r.auto.text c.dump_all-r.auto.list _ _ _ _ c.end.ensures c.dump_all-r.ensures.0

use Rattle.spec_session.proofs.calls.Laws as laws
use Rattle.session_requests.proofs.open_call.open_core.Goals as goal

pub returns-in-Err : goal.returns-in-Err
returns-in-Err c = laws.open_refused _ _ _ _ _ _ _ _ c.«open».ensures _ c.in-Err.is _ _ c.refused.ensures

pub returns-in-Ok : goal.returns-in-Ok
returns-in-Ok c = laws.open_sound _ _ _ _ _ _ _ _ c.«open».ensures _ c.in-Ok.is _

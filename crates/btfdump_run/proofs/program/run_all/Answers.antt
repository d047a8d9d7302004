use Rattle.session_requests.proofs.options.Cases as cases
use Rattle.btfdump_run.proofs.printed.Laws as laws
use Rattle.btfdump_run.proofs.program.run_all.Goals as goal

pub returns-in-Err : goal.returns-in-Err
returns-in-Err c = laws.shows_refused _ _ _ _ (cases.call_types _ _ _ _ _ _ _ _ _ c.request-d.ensures) _ c.in-Err.is _ _ c.put_refused.ensures

pub returns-in-Ok : goal.returns-in-Ok
returns-in-Ok c = laws.shows_text _ _ _ _ (cases.call_types _ _ _ _ _ _ _ _ _ c.request-d.ensures) _ c.in-Ok.is

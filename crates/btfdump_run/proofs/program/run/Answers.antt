use Rattle.btfdump_run.proofs.printed.Laws as laws
use Rattle.btfdump_run.proofs.program.run.Goals as goal

pub returns-in-Err : goal.returns-in-Err
returns-in-Err c = laws.run_refused _ _ _ _ (laws.default_is _ c.default.ensures) _ _ _ c.open_core-opened.ensures _ c.in-Err.is _ _ c.put_refused.ensures

pub returns-in-Ok : goal.returns-in-Ok
returns-in-Ok c = laws.run_opened _ _ _ _ (laws.default_is _ c.default.ensures) _ _ _ c.open_core-opened.ensures _ c.in-Ok.is _ _ _ c.run_all.ensures

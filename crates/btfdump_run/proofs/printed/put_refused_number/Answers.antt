use Rattle.std.proofs.Common.{rules}
use Rattle.btfdump_run.proofs.printed.Laws as laws
use Rattle.btfdump_run.proofs.printed.put_refused_number.Goals as goal

pub returns-in-Ok : goal.returns-in-Ok
returns-in-Ok c = laws.line_written _ _ _ _ c.put_line.ensures _ c.in-Ok.is

pub returns : goal.returns
returns c = laws.line_stopped _ _ _ _ c.put_line.ensures _ c.in_default.is c.put_line.auto.text _ (search rules)

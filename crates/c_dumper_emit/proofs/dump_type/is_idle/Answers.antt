use Rattle.c_dumper_emit.proofs.dump_type.Requests as requests
use Rattle.c_dumper_emit.proofs.dump_type.is_idle.Goals as goal

pub returns-in-Done : goal.returns-in-Done
returns-in-Done c = requests.idle_done _ _ _ _ _ c.get_mark.ensures c.in-Done.is

pub returns-in-Open : goal.returns-in-Open
returns-in-Open c = requests.idle_busy _ _ _ _ _ c.get_mark.ensures c.in-Open.is

pub returns-in_default : goal.returns-in_default
returns-in_default c = requests.idle_no _ _ _ _ _ c.get_mark.ensures c.in-New.is _ c.type_by_id-t.ensures _ c.of.ensures c.in_default.not-Func c.in_default.not-Var c.in_default.not-Datasec c.in_default.not-DeclTag

pub returns-in-Func : goal.returns-in-Func
returns-in-Func c = requests.idle_yes _ _ _ _ _ c.get_mark.ensures c.in-New.is _ c.type_by_id-t.ensures _ c.of.ensures c.in-Func.is

use Rattle.c_dumper_emit.proofs.dump_type.Requests as requests
use Rattle.c_dumper_emit.proofs.dump_type.dump_type.Goals as goal

pub returns-in-Err : goal.returns-in-Err
returns-in-Err c = (requests.dump_refused _ _ _ _ _ _ _ _ _ _ _ _ _ _ _ c.order_type.ensures _ c.in-Err.is, requests.made_is _ _ _ _ _ _ _ _ _ _ _ c.in-Err.ensures)

pub returns : goal.returns
returns c = (requests.dump_listed _ _ _ _ _ _ _ _ _ _ _ _ _ _ _ c.order_type.ensures _ c.in-Ok.is _ _ _ _ c.emit_ordered-pen.ensures _ c.clear_list.ensures, requests.made_is _ _ _ _ _ _ _ _ _ _ _ c.in-Ok.ensures)

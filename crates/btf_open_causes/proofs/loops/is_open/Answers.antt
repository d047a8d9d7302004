use Rattle.std.proofs.Common.{arith, sym, ◌∙◌}
use Rattle.btf_open_causes.proofs.loops.TypeLoops.{deg_by}
use Rattle.btf_open_causes.proofs.loops.Walks.{shut_out, new_is}
use Rattle.btf_open_causes.proofs.loops.is_open.Goals as goal

pub returns-in_default : goal.returns-in_default
returns-in_default c = shut_out _ _ _ c.requires (let h = c.in_default.ensures.lookup in omega arith)

pub returns-in-0 : goal.returns-in-0
returns-in-0 c =
    new_is _ _ _ c.requires c.in-Some.ensures.lookup.3.0 (sym (c.in-Some.ensures.lookup.3.1 0) ∙ c.in-0.is) _
    (deg_by _ _ _ _ _ c.entry.ensures _ c.degree.ensures)

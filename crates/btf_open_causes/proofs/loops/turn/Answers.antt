use Rattle.std.proofs.Common.{arith}
use Rattle.btf_open_causes.proofs.loops.TypeLoops.{deg_by, passed_by}
use Rattle.btf_open_causes.proofs.references.Accessors.{followed_is, id_told}
use Rattle.btf_open_causes.proofs.loops.Walks.{open_at, pop, space, passed_inv, pass_push, pass_found}
use Rattle.btf_open_causes.proofs.loops.turn.Goals as goal

pub returns-in_default : goal.returns-in_default
returns-in_default c =
    pop _ _ _ _ c.requires.0 c.requires.1 _ (deg_by _ _ _ _ _ c.entry-e.ensures _ c.degree-n.ensures) (passed_by _ _ _ _ _ c.entry-e.ensures _ _ c.in_default.ensures)

pub returns-then-st-next-ne-NEW : goal.returns-then-st-next-ne-NEW
returns-then-st-next-ne-NEW c =
    let p = c.in-Some.ensures in
    pass_found _ _ _ _ c.requires.0 c.requires.1 _ (deg_by _ _ _ _ _ c.entry-e.ensures _ c.degree-n.ensures) _ p.0 p.1
    (passed_by _ _ _ _ _ c.entry-e.ensures _ _ p.3) _ (followed_is _ _ _ _ c.entry-e.ensures _ _ _ (id_told _ _ _ _ c.place.ensures _ _ (c.id_at-y.ensures _ c.kind.ensures))) c.if-st-next-ne-NEW.true
    (open_at _ _ _ (id_told _ _ _ _ c.place.ensures _ _ (c.id_at-y.ensures _ c.kind.ensures)) p.2).1

pub bounds-stack-d-2 : goal.bounds-stack-d-2
bounds-stack-d-2 c =
    let p = c.in-Some.ensures in
    omega (arith, c.requires.0.stack_length, space _ _ _ _ (passed_inv _ _ _ _ c.requires.0 c.requires.1 _ (deg_by _ _ _ _ _ c.entry-e.ensures _ c.degree-n.ensures) _ p.0 p.1 (passed_by _ _ _ _ _ c.entry-e.ensures _ _ p.3)) c.requires.1 _ (open_at _ _ _ (id_told _ _ _ _ c.place.ensures _ _ (c.id_at-y.ensures _ c.kind.ensures)) p.2).0 c.if-st-next-ne-NEW.false)

pub returns : goal.returns
returns c =
    let p = c.in-Some.ensures in
    pass_push _ _ _ _ c.requires.0 c.requires.1 _ (deg_by _ _ _ _ _ c.entry-e.ensures _ c.degree-n.ensures) _ p.0 p.1
    (passed_by _ _ _ _ _ c.entry-e.ensures _ _ p.3) _ (followed_is _ _ _ _ c.entry-e.ensures _ _ _ (id_told _ _ _ _ c.place.ensures _ _ (c.id_at-y.ensures _ c.kind.ensures))) (open_at _ _ _ (id_told _ _ _ _ c.place.ensures _ _ (c.id_at-y.ensures _ c.kind.ensures)) p.2).0 c.if-st-next-ne-NEW.false

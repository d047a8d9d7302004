use Rattle.std.proofs.Common.{arith}
use Rattle.btf_open_causes.specs.prototypes.Prototypes.{track_of}
use Rattle.btf_open_causes.proofs.prototypes.Cells.{run_start, run_less, run_more, looked_as, settle_yes, answer_yes, settle_no, answer_no}
use Rattle.btf_open_causes.proofs.prototypes.walk.Goals as goal

pub loop-seen-init : goal.loop-seen-init
loop-seen-init c = (run_start _ _ _ c.requires, c.look-seen.ensures)

pub loop-seen-smaller : goal.loop-seen-smaller
loop-seen-smaller c = omega (arith, run_less (track_of c.args.i.now.table.head c.args.i.now.table.section.now c.args.i.now.start.now) _ _ _ _ c.loop-seen.invariant.0 (looked_as (track_of c.args.i.now.table.head c.args.i.now.table.section.now c.args.i.now.start.now) _ _ _ c.loop-seen.invariant.1 _ c.in-Unknown.is))

pub loop-seen-preserved : goal.loop-seen-preserved
loop-seen-preserved c =
    (run_more _ _ _ _ _ c.loop-seen.invariant.0 (looked_as (track_of c.args.i.now.table.head c.args.i.now.table.section.now c.args.i.now.start.now) _ _ _ c.loop-seen.invariant.1 _ c.in-Unknown.is) _ c.next-z.ensures, c.look-seen-in-Unknown.ensures)

pub settle-requires : goal.settle-requires
settle-requires c = settle_yes _ _ _ _ _ c.loop-seen.invariant.0 (looked_as _ _ _ _ c.loop-seen.invariant.1 _ c.in-Yes.is)

pub returns-in-Yes : goal.returns-in-Yes
returns-in-Yes c = answer_yes _ _ _ _ _ c.loop-seen.invariant.0 (looked_as _ _ _ _ c.loop-seen.invariant.1 _ c.in-Yes.is) _ c.settle.ensures

pub settle-requires-2 : goal.settle-requires-2
settle-requires-2 c = settle_no _ _ _ _ _ c.loop-seen.invariant.0 _ c.loop-seen.invariant.1 c.in_default.not-Unknown c.in_default-seen.not-Yes

pub returns : goal.returns
returns c = answer_no _ _ _ _ _ c.loop-seen.invariant.0 _ c.loop-seen.invariant.1 c.in_default.not-Unknown c.in_default-seen.not-Yes _ c.settle-2.ensures

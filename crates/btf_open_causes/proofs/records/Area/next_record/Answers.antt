use Rattle.std.proofs.Common.{arith, ◌∙◌}
use Rattle.btf_open_causes.proofs.records.Pass.{next_past, next_used, next_used2, next_unknown, next_long, next_unnamed, next_is, extra_known, extra_long, extra_unknown}
use Rattle.btf_open_causes.proofs.records.Area.next_record.Goals as goal
use Rattle.btf_open_causes.proofs.records.Area.next_record.Goals.{then-info-ne0-via-then-info-ne0, then-info-ne0-via-else-info-ne0+then-info-ne0-2}
use Rattle.btf_open_causes.proofs.records.Area.next_record.Goals.{then-left-n-via-then-left-n, then-left-n-via-else-left-n+then-not-are_record_names_inside}

pub returns-in_err-checked_sub : goal.returns-in_err-checked_sub
returns-in_err-checked_sub c = c.from_residual.ensures ∙ next_past _ _ _ _ (let q = c.in_err-checked_sub.ensures in omega arith)

pub returns-in_err-left : goal.returns-in_err-left
returns-in_err-left c =
    c.from_residual-in_err-left.ensures
    ∙ next_past _ _ _ _ (let q = c.in_err-left.ensures in let p = c.in_ok-checked_sub.ensures in omega arith)

pub returns-then-info-ne0 : goal.returns-then-info-ne0
returns-then-info-ne0 c =
    elim c.then-info-ne0.branch [
      | then-info-ne0-via-then-info-ne0 w ↦ next_used _ _ _ _ _ c.requires w.if-info-ne0.true
      | then-info-ne0-via-else-info-ne0+then-info-ne0-2 w ↦ next_used2 _ _ _ _ _ c.requires w.if-info-ne0-2.true
    ]

pub returns-in_err-n : goal.returns-in_err-n
returns-in_err-n c = c.from_residual-in_err-n.ensures ∙ next_unknown _ _ _ _ _ c.requires (extra_unknown _ _ c.vlen_of.ensures _ (c.extra_of.ensures _ c.of.ensures) c.in_err-n.was)

pub returns-then-left-n : goal.returns-then-left-n
returns-then-left-n c =
    let p = c.in_ok-checked_sub.ensures in
    let q = c.in_ok-left.ensures in
    let e = extra_long _ _ c.vlen_of.ensures _ (c.extra_of.ensures _ c.of.ensures) _ c.in_ok-n.was in
    elim c.then-left-n.branch [
      | then-left-n-via-then-left-n w ↦ next_long _ _ _ _ _ c.requires _ e p.0 (omega arith) (omega arith)
      | then-left-n-via-else-left-n+then-not-are_record_names_inside w ↦ next_unnamed _ _ _ _ _ c.requires _ e _ w.are_record_names_inside.ensures w.if-not-are_record_names_inside.true
    ]

pub returns : goal.returns
returns c =
    let p = c.in_ok-checked_sub.ensures in
    let q = c.in_ok-left.ensures in
    next_is _ _ _ _ _ c.requires _ (extra_long _ _ c.vlen_of.ensures _ (c.extra_of.ensures _ c.of.ensures) _ c.in_ok-n.was) _ c.are_record_names_inside.ensures
    p.0 (omega arith) c.if-info-ne0.false c.if-info-ne0-2.false (extra_known _ _ c.vlen_of.ensures _ (c.extra_of.ensures _ c.of.ensures) _ c.in_ok-n.was) (omega arith)
    c.if-not-are_record_names_inside.false

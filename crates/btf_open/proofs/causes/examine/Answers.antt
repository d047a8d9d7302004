use mathlib.Core.Path.{refl}
use Rattle.std.proofs.lemmas.Result.{err_from_is_err_and}
use Rattle.spec_opening.proofs.Opens.{examine_1, examine_2_to_6, examine_7, examine_8, examine_9, examine_0, says_refused, says_sound}
use Rattle.btf_open.proofs.causes.examine.Goals as goal

pub returns-then-not-is_pointer_size : goal.returns-then-not-is_pointer_size
returns-then-not-is_pointer_size c = says_refused _ _ _ (examine_1 _ _ _ _ c.is_pointer_size.ensures c.if-not-is_pointer_size.true)

pub returns-in_err-counts : goal.returns-in_err-counts
returns-in_err-counts c =
    let p = err_from_is_err_and c.from_residual.result c.from_residual.ensures.1 in
    rw (p.1, p.2) (examine_2_to_6 _ _ _ _ c.is_pointer_size.ensures c.if-not-is_pointer_size.false _ _ c.in_err-counts.ensures _ refl)

pub returns-then-leads_to_proto : goal.returns-then-leads_to_proto
returns-then-leads_to_proto c =
    says_refused _ _ _ (examine_7 _ _ _ _ c.is_pointer_size.ensures c.if-not-is_pointer_size.false _ _ c.in_ok-counts.ensures _ refl _ c.btf_of-head.ensures _ c.leads_to_proto.ensures c.if-leads_to_proto.true)

pub returns-then-has_loop : goal.returns-then-has_loop
returns-then-has_loop c =
    says_refused _ _ _
    (examine_8 _ _ _ _ c.is_pointer_size.ensures c.if-not-is_pointer_size.false _ _ c.in_ok-counts.ensures _ refl _ c.btf_of-head.ensures _ c.leads_to_proto.ensures c.if-leads_to_proto.false _ c.has_loop.ensures c.if-has_loop.true)

pub returns-then-work_len-work_size : goal.returns-then-work_len-work_size
returns-then-work_len-work_size c =
    says_refused _ _ _
    (examine_9 _ _ _ _ c.is_pointer_size.ensures c.if-not-is_pointer_size.false _ _ c.in_ok-counts.ensures _ refl _ c.btf_of-head.ensures _ c.leads_to_proto.ensures c.if-leads_to_proto.false _ c.has_loop.ensures c.if-has_loop.false _ c.work_size.ensures c.if-work_len-work_size.true)

pub returns : goal.returns
returns c =
    says_sound _ _ _
    (examine_0 _ _ _ _ c.is_pointer_size.ensures c.if-not-is_pointer_size.false _ _ c.in_ok-counts.ensures _ refl _ c.btf_of-head.ensures _ c.leads_to_proto.ensures c.if-leads_to_proto.false _ c.has_loop.ensures c.if-has_loop.false _ c.work_size.ensures c.if-work_len-work_size.false)

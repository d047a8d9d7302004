use mathlib.Core.Path.{refl}
use Rattle.std.proofs.lemmas.Result.{err_from_is_err_and}
use Rattle.spec_opening.proofs.Opens.{index_early, index_5, index_6, index_0, some_number, scan_none, scan_some, says_refused, says_sound}
use Rattle.btf_open.proofs.causes.index_records.Goals as goal

pub returns-in_err-section_cause : goal.returns-in_err-section_cause
returns-in_err-section_cause c =
    let p = err_from_is_err_and c.from_residual.result c.from_residual.ensures.1 in
    rw (p.1, p.2) (says_refused _ _ _ (index_early _ _ _ c.in_err-section_cause.ensures (some_number _)))

pub returns-in_err-counts : goal.returns-in_err-counts
returns-in_err-counts c =
    let p = err_from_is_err_and c.from_residual-in_err-counts.result c.from_residual-in_err-counts.ensures.1 in
    let k = scan_none _ _ _ c.ok_or.ensures.value c.in_err-counts.was in
    rw (p.1, p.2, k.1) (says_refused _ _ _ (index_5 _ _ _ c.in_ok-section_cause.ensures refl _ c.btf_of-head.ensures _ _ _ c.clear_index.ensures c.scan.ensures k.0))

pub returns-then-has_bad_reference : goal.returns-then-has_bad_reference
returns-then-has_bad_reference c =
    let k = scan_some _ _ _ c.ok_or.ensures.value c.in_ok-counts.was in
    says_refused _ _ _
    (index_6 _ _ _ c.in_ok-section_cause.ensures refl _ c.btf_of-head.ensures _ _ _ c.clear_index.ensures c.scan.ensures _ k _ c.btf_of-head-2.ensures _ c.has_bad_reference.ensures c.if-has_bad_reference.true)

pub returns : goal.returns
returns c =
    let k = scan_some _ _ _ c.ok_or.ensures.value c.in_ok-counts.was in
    says_sound _ _ _
    (index_0 _ _ _ c.in_ok-section_cause.ensures refl _ c.btf_of-head.ensures _ _ _ c.clear_index.ensures c.scan.ensures _ k _ c.btf_of-head-2.ensures _ c.has_bad_reference.ensures c.if-has_bad_reference.false)

use Rattle.std.proofs.Common.{rules}
use Rattle.std.specs.Prelude.{Err}
use Rattle.btf_layout.specs.remembered.Words.{once_of}
use Rattle.btf_layout.proofs.remembered.Laws.{height_of_lem, keep_got, keep_err}
use Rattle.btf_layout.proofs.align_of.Cycle.{after_align, after_members, once_deep, once_taken, once_anew, once_own, once_through, once_members, ids_start, ids_more, ids_refused, ids_end, turned}
use mathlib.Core.Path.{◌≡◌, ◌∙◌, refl, ap, sym}
use native.Mathlib.Omega.{arith}
use Rattle.btf_layout.proofs.align_of.+align_of.Goals as goal

pub align_anew-keep_once-requires : goal.align_anew-keep_once-requires
align_anew-keep_once-requires t c = omega arith

pub align_anew-keep_once-requires-in-Through : goal.align_anew-keep_once-requires-in-Through
align_anew-keep_once-requires-in-Through t c = omega (arith, (after_align _ _ _ _ _ _ _ _ c.get_align_of.ensures).0, height_of_lem _ _ c.in_ok-s-in-Through.was)

pub align_anew-keep_once-requires-in-Members : goal.align_anew-keep_once-requires-in-Members
align_anew-keep_once-requires-in-Members t c = omega (arith, (after_members _ _ _ _ _ _ _ _ c.members_once.ensures).0, height_of_lem _ _ c.in_ok-s-in-Members.was)

pub align_anew-returns-in-Own : goal.align_anew-returns-in-Own
align_anew-returns-in-Own t c = once_own _ _ _ _ _ _ c.type_by_id-t.ensures _ c.step_of.ensures _ c.in-Own.is _ _ c.keep_once.ensures

pub align_anew-returns-in_ok-s-in-Through : goal.align_anew-returns-in_ok-s-in-Through
align_anew-returns-in_ok-s-in-Through t c =
    rw (sym c.saturating_sub-below.ensures) (once_through _ _ _ _ _ _ c.type_by_id-t.ensures _ c.step_of.ensures _ c.in-Through.is _ _ c.get_align_of.ensures _ _ (keep_got _ _ _ _ _ _ c.in_ok-s-in-Through.was _ c.keep_once-in-Through.ensures))

pub align_anew-returns-in_err-s-in-Through : goal.align_anew-returns-in_err-s-in-Through
align_anew-returns-in_err-s-in-Through t c =
    let e : c.from_residual.result ≡ Err c.in_err-s-in-Through.field-0.0 = search rules in
    ap (λ x. once_of x c.get_align_of.new.work) e
    ∙ rw (sym c.saturating_sub-below.ensures) (once_through _ _ _ _ _ _ c.type_by_id-t.ensures _ c.step_of.ensures _ c.in-Through.is _ _ c.get_align_of.ensures _ _ (keep_err _ _ _ _ _ _ c.in_err-s-in-Through.was))

pub align_anew-returns-in_ok-s-in-Members : goal.align_anew-returns-in_ok-s-in-Members
align_anew-returns-in_ok-s-in-Members t c =
    rw (sym c.saturating_sub-below.ensures) (once_members _ _ _ _ _ _ c.type_by_id-t.ensures _ c.step_of.ensures _ c.in-Members.is _ _ c.members_once.ensures _ _ (keep_got _ _ _ _ _ _ c.in_ok-s-in-Members.was _ c.keep_once-in-Members.ensures))

pub align_anew-returns-in_err-s-in-Members : goal.align_anew-returns-in_err-s-in-Members
align_anew-returns-in_err-s-in-Members t c =
    let e : c.from_residual-in_err-s-in-Members.result ≡ Err c.in_err-s-in-Members.field-0.0 = search rules in
    ap (λ x. once_of x c.members_once.new.work) e
    ∙ rw (sym c.saturating_sub-below.ensures) (once_members _ _ _ _ _ _ c.type_by_id-t.ensures _ c.step_of.ensures _ c.in-Members.is _ _ c.members_once.ensures _ _ (keep_err _ _ _ _ _ _ c.in_err-s-in-Members.was))

pub get_align_of-returns-then-left-eq0 : goal.get_align_of-returns-then-left-eq0
get_align_of-returns-then-left-eq0 t c = once_deep _ _ _ _ _ c.if-left-eq0.true

pub get_align_of-returns-in-Some : goal.get_align_of-returns-in-Some
get_align_of-returns-in-Some t c = once_taken _ _ _ _ _ c.if-left-eq0.false _ c.recall.ensures _ c.in-Some.is _ c.taken.ensures

pub get_align_of-returns-in-None : goal.get_align_of-returns-in-None
get_align_of-returns-in-None t c = c.align_anew.ensures ∙ sym (once_anew _ _ _ _ _ c.if-left-eq0.false _ c.recall.ensures c.in-None.is)

pub members_once-loop-k-init : goal.members_once-loop-k-init
members_once-loop-k-init t c = (refl, ids_start _ _ _ _ _ _ _)

pub members_once-returns-in_err-get_align_of : goal.members_once-returns-in_err-get_align_of
members_once-returns-in_err-get_align_of t c =
    let e : c.from_residual.result ≡ Err c.in_err-get_align_of.field-0.0 = search rules in
    ap (λ x. once_of x c.get_align_of.new.work) e
    ∙ ids_refused _ _ _ _ _ _ _ _ _ _ _ c.loop-k-test.true c.member_place.ensures c.word-id.ensures _ _ (turned _ _ _ _ _ _ _ _ c.get_align_of.ensures c.loop-k.invariant.0) _ _ c.loop-k.invariant.1 c.in_err-get_align_of.was

pub members_once-loop-k-preserved : goal.members_once-loop-k-preserved
members_once-loop-k-preserved t c = (
  (after_align _ _ _ _ _ _ _ _ c.get_align_of.ensures).1 ∙ c.loop-k.invariant.0,
  ids_more _ _ _ _ _ _ _ _ _ _ _ c.loop-k-test.true c.member_place.ensures c.word-id.ensures _ _ (turned _ _ _ _ _ _ _ _ c.get_align_of.ensures c.loop-k.invariant.0) _ _ _ c.loop-k.invariant.1 c.in_ok-get_align_of.was c.widest-seen.ensures,
)

pub members_once-returns : goal.members_once-returns
members_once-returns t c = ids_end _ _ _ _ _ _ _ _ _ _ c.loop-k.invariant.1 (omega arith)

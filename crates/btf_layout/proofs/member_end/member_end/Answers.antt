use Rattle.std.proofs.Common.{rules}
use Rattle.std.specs.Prelude.{Err}
use Rattle.btf_layout.specs.size.Answers.{ask_of}
use Rattle.btf_layout.proofs.size.Laws.{fits_checked, end_bits, end_unsized, end_over, end_found}
use mathlib.Core.Path.{◌≡◌, ap, ◌∙◌}
use Rattle.btf_layout.proofs.member_end.member_end.Goals as goal

pub returns-then-m-ne0 : goal.returns-then-m-ne0
returns-then-m-ne0 c = end_bits _ _ _ _ _ c.if-m-ne0.true (fits_checked _ _ c.checked_add.ensures _ c.ok_or.ensures.value)

pub returns-in_err-size : goal.returns-in_err-size
returns-in_err-size c =
    let e : c.from_residual.result ≡ Err c.in_err-size.field-0.0 = search rules in
    ap ask_of e ∙ end_unsized _ _ _ _ c.if-m-ne0.false _ c.get_size_of.ensures _ c.in_err-size.was

pub returns-in_err-bits : goal.returns-in_err-bits
returns-in_err-bits c =
    let e : c.from_residual-in_err-bits.result ≡ Err c.in_err-bits.field-0.0 = search rules in
    ap ask_of e ∙ end_over _ _ _ _ c.if-m-ne0.false _ c.get_size_of.ensures _ c.in_ok-size.was _ (fits_checked _ _ c.checked_mul.ensures _ c.ok_or-2.ensures.value) _ c.in_err-bits.was

pub returns : goal.returns
returns c =
    end_found _ _ _ _ c.if-m-ne0.false _ c.get_size_of.ensures _ c.in_ok-size.was _ (fits_checked _ _ c.checked_mul.ensures _ c.ok_or-2.ensures.value) _ _ c.in_ok-bits.was
    (fits_checked _ _ c.checked_add-2.ensures _ c.ok_or-3.ensures.value)

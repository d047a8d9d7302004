use Rattle.std.proofs.Common.{rules}
use Rattle.std.specs.Prelude.{Err, Result, Bool}
use Rattle.spec_bytes.specs.declared.refusal.Refusal.{Refusal}
use Rattle.btf_layout.specs.size.Answers.{ask_of}
use Rattle.c_dumper_padding.proofs.extents.Laws.{in_bits, past_bits, judged_large, judged_misfit, judged_sound, judged_size}
use mathlib.Core.Path.{◌≡◌, ap, ◌∙◌}
use borrow.Author.Tests.{not-true, not-false}
use Rattle.c_dumper_padding.proofs.extents.judged.Goals as goal

pub returns-in_err-bits : goal.returns-in_err-bits
returns-in_err-bits c =
    let e : c.from_residual.result ≡ Err c.in_err-bits.field-0.0 = search rules in
    let q = past_bits _ _ c.checked_mul.ensures _ c.ok_or.ensures.value _ c.in_err-bits.was in
    ap (λ (r : Result Bool Refusal). ask_of r) e ∙ ap (λ (x : Refusal). ask_of {A = Bool} (Err x)) q.1 ∙ judged_large _ _ _ _ _ q.0

pub returns-then-not-x : goal.returns-then-not-x
returns-then-not-x c =
    let q = in_bits _ _ c.checked_mul.ensures _ c.ok_or.ensures.value _ c.in_ok-bits.was in
    judged_misfit _ _ _ _ _ q.0 (not-true _ c.if-not-x.true)

pub returns-then-size_fits : goal.returns-then-size_fits
returns-then-size_fits c =
    let q = in_bits _ _ c.checked_mul.ensures _ c.ok_or.ensures.value _ c.in_ok-bits.was in
    judged_sound _ _ _ _ _ q.0 (not-false _ c.if-not-x.false) _ (rw q.1 at c.size_fits.ensures) c.if-size_fits.true

pub returns : goal.returns
returns c =
    let q = in_bits _ _ c.checked_mul.ensures _ c.ok_or.ensures.value _ c.in_ok-bits.was in
    judged_size _ _ _ _ _ q.0 (not-false _ c.if-not-x.false) _ (rw q.1 at c.size_fits.ensures) c.if-size_fits.false

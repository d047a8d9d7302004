use Rattle.std.proofs.Common.{rules}
use Rattle.std.specs.Prelude.{Bool, Result, Err}
use Rattle.spec_bytes.specs.declared.refusal.Refusal.{Refusal}
use mathlib.Core.Path.{◌≡◌, ap, ◌∙◌}
use Rattle.btf_layout.specs.asked.Asked.{ask_in}
use Rattle.btf_layout.proofs.asked.Laws.{off_bits, off_got, off_no}
use Rattle.btf_layout.proofs.asked.member_off.Goals as goal

pub returns-then-m-ne0 : goal.returns-then-m-ne0
returns-then-m-ne0 c = off_bits _ _ _ _ c.if-m-ne0.true

pub returns-in_err-alignment : goal.returns-in_err-alignment
returns-in_err-alignment c =
    let e : c.from_residual.result ≡ Err c.in_err-alignment.field-0.0 = search rules in
    ap (λ (r : Result Bool Refusal). ask_in r c.alignment.new.work) e ∙ off_no _ _ _ _ c.if-m-ne0.false _ _ c.alignment.ensures _ c.in_err-alignment.was

pub returns : goal.returns
returns c = off_got _ _ _ _ c.if-m-ne0.false _ _ c.alignment.ensures _ c.in_ok-alignment.was _ c.off_by.ensures

use Rattle.std.proofs.Common.{rules}
use Rattle.std.specs.Prelude.{ℕ, Result, Err}
use Rattle.spec_bytes.specs.declared.refusal.Refusal.{Refusal}
use mathlib.Core.Path.{◌≡◌, ap, ◌∙◌}
use Rattle.btf_layout.specs.asked.Asked.{ask_in}
use Rattle.btf_layout.proofs.asked.Laws.{align_found, align_no}
use Rattle.btf_layout.proofs.asked.alignment.Goals as goal

pub returns-in_err-s : goal.returns-in_err-s
returns-in_err-s c =
    let e : c.from_residual.result ≡ Err c.in_err-s.field-0.0 = search rules in
    ap (λ (r : Result ℕ Refusal). ask_in r c.get_align_of.new.work) e ∙ align_no _ _ _ _ _ _ c.get_align_of.ensures _ c.in_err-s.was

pub returns : goal.returns
returns c = align_found _ _ _ _ _ _ c.get_align_of.ensures _ c.in_ok-s.was

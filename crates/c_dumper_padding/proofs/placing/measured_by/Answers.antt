use Rattle.std.proofs.Common.{rules}
use Rattle.std.specs.Prelude.{Bool, Result, Err}
use Rattle.spec_bytes.specs.declared.refusal.Refusal.{Refusal}
use Rattle.btf_layout.specs.asked.Asked.{ask_in}
use Rattle.btf_layout.proofs.asked.Laws.{table_packed}
use Rattle.c_dumper_padding.proofs.placing.Laws.{by_refused, by_endless, by_judged}
use mathlib.Core.Path.{◌≡◌, ap, ◌∙◌}
use Rattle.c_dumper_padding.proofs.placing.measured_by.Goals as goal

pub returns-in_err-packed : goal.returns-in_err-packed
returns-in_err-packed c =
    let e : c.from_residual.result ≡ Err c.in_err-packed.field-0.0 = search rules in
    ap (λ (r : Result Bool Refusal). ask_in r c.is_packed.new.work) e ∙ by_refused _ _ _ _ _ _ _ _ _ _ c.is_packed.ensures _ c.in_err-packed.was

pub returns-in_err-e : goal.returns-in_err-e
returns-in_err-e c =
    let e : c.from_residual-in_err-e.result ≡ Err c.in_err-e.field-0.0 = search rules in
    ap (λ (r : Result Bool Refusal). ask_in r c.is_packed.new.work) e ∙ by_endless _ _ _ _ _ _ _ _ _ _ c.is_packed.ensures _ c.in_ok-packed.was _ (table_packed _ _ _ _ _ _ _ _ _ c.is_packed.ensures) _ c.is_struct.ensures _ c.extent_of.ensures _ c.in_err-e.was

pub returns : goal.returns
returns c = by_judged _ _ _ _ _ _ _ _ _ _ c.is_packed.ensures _ c.in_ok-packed.was _ (table_packed _ _ _ _ _ _ _ _ _ c.is_packed.ensures) _ c.is_struct.ensures _ c.extent_of.ensures _ c.in_ok-e.was _ c.judged.ensures

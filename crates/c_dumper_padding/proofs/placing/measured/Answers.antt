use Rattle.std.proofs.Common.{rules}
use Rattle.std.specs.Prelude.{Bool, Result, Err}
use Rattle.spec_bytes.specs.declared.refusal.Refusal.{Refusal}
use Rattle.btf_layout.specs.asked.Asked.{ask_in}
use Rattle.btf_layout.proofs.asked.Laws.{table_union}
use Rattle.c_dumper_padding.proofs.placing.Laws.{measured_refused, measured_got}
use mathlib.Core.Path.{◌≡◌, ap, ◌∙◌}
use Rattle.c_dumper_padding.proofs.placing.measured.Goals as goal

pub returns-in_err-a : goal.returns-in_err-a
returns-in_err-a c =
    let e : c.from_residual.result ≡ Err c.in_err-a.field-0.0 = search rules in
    ap (λ (r : Result Bool Refusal). ask_in r c.union_align.new.work) e ∙ measured_refused _ _ _ _ _ _ _ _ _ c.union_align.ensures _ c.in_err-a.was

pub returns : goal.returns
returns c = measured_got _ _ _ _ _ _ _ _ _ c.union_align.ensures _ c.in_ok-a.was _ (table_union _ _ _ _ _ _ _ c.union_align.ensures) _ _ c.measured_by.ensures

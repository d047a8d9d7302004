use Rattle.std.proofs.Common.{rules}
use Rattle.std.specs.Prelude.{Bool, Result, Err}
use Rattle.spec_bytes.specs.declared.refusal.Refusal.{Refusal}
use Rattle.btf_layout.specs.asked.Asked.{ask_in}
use Rattle.btf_layout.proofs.asked.Laws.{table_off, rest_start, rest_no, rest_off, rest_more, rest_end}
use mathlib.Core.Path.{◌≡◌, ap, ◌∙◌, refl}
use native.Mathlib.Omega.{arith}
use Rattle.btf_layout.proofs.asked.members_packed.Goals as goal

pub loop-k-init : goal.loop-k-init
loop-k-init c = (refl, rest_start _ _ _ _ _ _)

pub returns-then-is_off : goal.returns-then-is_off
returns-then-is_off c = rest_off _ _ _ _ _ _ _ _ _ _ _ c.vlen_of-k-end.ensures c.loop-k-test.true c.load_member-m.ensures _ c.loop-k.invariant.0 c.member_off.ensures _ _ c.loop-k.invariant.1 c.in_ok-is_off.was c.if-is_off.true

pub returns-in_err-is_off : goal.returns-in_err-is_off
returns-in_err-is_off c =
    let e : c.from_residual.result ≡ Err c.in_err-is_off.field-0.0 = search rules in
    ap (λ (r : Result Bool Refusal). ask_in r c.member_off.new.work) e
    ∙ rest_no _ _ _ _ _ _ _ _ _ _ _ c.vlen_of-k-end.ensures c.loop-k-test.true c.load_member-m.ensures _ c.loop-k.invariant.0 c.member_off.ensures _ _ c.loop-k.invariant.1 c.in_err-is_off.was

pub loop-k-preserved : goal.loop-k-preserved
loop-k-preserved c = (table_off _ _ _ _ _ _ c.member_off.ensures ∙ c.loop-k.invariant.0, rest_more _ _ _ _ _ _ _ _ _ _ _ c.vlen_of-k-end.ensures c.loop-k-test.true c.load_member-m.ensures _ c.loop-k.invariant.0 c.member_off.ensures _ _ c.loop-k.invariant.1 c.in_ok-is_off.was c.if-is_off.false)

pub returns : goal.returns
returns c = rest_end _ _ _ _ _ _ _ _ _ c.loop-k.invariant.1 c.vlen_of-k-end.ensures (omega arith)

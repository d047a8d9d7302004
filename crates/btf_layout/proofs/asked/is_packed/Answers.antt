use Rattle.std.proofs.Common.{rules}
use Rattle.std.specs.Prelude.{Bool, Result, Err}
use Rattle.spec_bytes.specs.declared.refusal.Refusal.{Refusal}
use mathlib.Core.Path.{◌≡◌, ap, ◌∙◌}
use mathlib.Core.Bool.{not}
use Rattle.btf_layout.specs.asked.Asked.{ask_in}
use Rattle.btf_layout.proofs.asked.Laws.{packed_union, packed_members, packed_off, packed_no, table_asked, is_multiple}
use Rattle.btf_layout.proofs.asked.is_packed.Goals as goal

pub returns-then-not-is_struct : goal.returns-then-not-is_struct
returns-then-not-is_struct c = packed_union _ _ _ _ c.is_struct.ensures _ _ _ _ (ap not c.if-not-is_struct.true)

pub returns-then-is_multiple_of : goal.returns-then-is_multiple_of
returns-then-is_multiple_of c = packed_members _ _ _ _ c.is_struct.ensures _ _ _ _ (ap not c.if-not-is_struct.false) _ _ c.alignment.ensures _ c.in_ok-a.was _ (is_multiple _ _ c.is_multiple_of.ensures) c.if-is_multiple_of.true _ (table_asked _ _ _ _ _ _ c.alignment.ensures) _ _ c.members_packed.ensures

pub returns : goal.returns
returns c = packed_off _ _ _ _ c.is_struct.ensures _ _ _ _ (ap not c.if-not-is_struct.false) _ _ c.alignment.ensures _ c.in_ok-a.was _ (is_multiple _ _ c.is_multiple_of.ensures) c.if-is_multiple_of.false

pub returns-in_err-a : goal.returns-in_err-a
returns-in_err-a c =
    let e : c.from_residual.result ≡ Err c.in_err-a.field-0.0 = search rules in
    ap (λ (r : Result Bool Refusal). ask_in r c.alignment.new.work) e ∙ packed_no _ _ _ _ c.is_struct.ensures _ _ _ _ (ap not c.if-not-is_struct.false) _ _ c.alignment.ensures _ c.in_err-a.was

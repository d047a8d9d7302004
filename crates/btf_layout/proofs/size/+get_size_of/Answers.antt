use Rattle.std.proofs.Common.{rules}
use Rattle.std.specs.Prelude.{Err}
use Rattle.spec_c_dumper.specs.rules.Writer.{checked}
use Rattle.spec_c_dumper.specs.rules.Layout.{get_size_of}
use Rattle.spec_type_table.specs.Table.{btf_of}
use Rattle.btf_layout.specs.size.Answers.{ask_of}
use Rattle.btf_layout.proofs.size.Laws.{fits_checked, then_ok, then_err, size_deep, size_int, size_ptr, size_array, size_sized, size_none, size_through}
use mathlib.Core.Path.{◌≡◌, refl, ap, ◌∙◌, sym}
use native.Mathlib.Omega.{arith}
use Prim.Native.Nat.{ℕ, ◌+◌, ◌-◌, ◌*◌}
use Rattle.btf_layout.proofs.size.+get_size_of.Goals as goal

pub returns-in-Int : goal.returns-in-Int
returns-in-Int t c =
    let deep : (c.args.left - c.loop-passed.passed ≡ 0) → ⊥ = λ e. omega arith in
    size_int _ _ _ _ _ deep _ c.type_by_id-t.ensures _ c.of.ensures _ _ c.in-Int.is c.int_bits.ensures c.div_ceil.ensures ∙ sym c.loop-passed.invariant

pub returns-in-Ptr : goal.returns-in-Ptr
returns-in-Ptr t c =
    let deep : (c.args.left - c.loop-passed.passed ≡ 0) → ⊥ = λ e. omega arith in
    size_ptr _ _ _ _ _ deep _ c.type_by_id-t.ensures _ c.of.ensures c.in-Ptr.is ∙ sym c.loop-passed.invariant

pub returns-in_err-element-in-Array : goal.returns-in_err-element-in-Array
returns-in_err-element-in-Array t c =
    let deep : (c.args.left - c.loop-passed.passed ≡ 0) → ⊥ = λ e. omega arith in
    let e : c.from_residual.result ≡ Err c.in_err-element-in-Array.field-0.0 = search rules in
    ap ask_of e ∙ size_array _ _ _ _ _ deep _ c.type_by_id-t.ensures _ c.of.ensures _ _ _ _ c.in-Array.is c.extra_word.ensures refl c.get_size_of.ensures (then_err _ _ _ c.in_err-element-in-Array.was) ∙ sym c.loop-passed.invariant

pub returns-in-Array : goal.returns-in-Array
returns-in-Array t c =
    let deep : (c.args.left - c.loop-passed.passed ≡ 0) → ⊥ = λ e. omega arith in
    let once : ask_of c.ok_or.result ≡ checked (c.array_nelems.result * c.in_ok-element-in-Array.element) = fits_checked _ _ c.checked_mul.ensures _ c.ok_or.ensures.value in
    size_array _ _ _ _ _ deep _ c.type_by_id-t.ensures _ c.of.ensures _ _ _ _ c.in-Array.is c.extra_word.ensures c.array_nelems.ensures c.get_size_of.ensures (then_ok _ _ _ _ c.in_ok-element-in-Array.was once) ∙ sym c.loop-passed.invariant

pub returns-in-Struct : goal.returns-in-Struct
returns-in-Struct t c =
    let deep : (c.args.left - c.loop-passed.passed ≡ 0) → ⊥ = λ e. omega arith in
    size_sized _ _ _ _ _ deep _ c.type_by_id-t.ensures _ c.of.ensures c.in-Struct.is ∙ sym c.loop-passed.invariant

pub returns-in-Void : goal.returns-in-Void
returns-in-Void t c =
    let deep : (c.args.left - c.loop-passed.passed ≡ 0) → ⊥ = λ e. omega arith in
    size_none _ _ _ _ _ deep _ c.type_by_id-t.ensures _ c.of.ensures c.in-Void.is ∙ sym c.loop-passed.invariant

pub loop-passed-preserved : goal.loop-passed-preserved
loop-passed-preserved t c =
    let deep : (c.args.left - c.loop-passed.passed ≡ 0) → ⊥ = λ e. omega arith in
    let fewer : c.args.left - c.loop-passed.passed - 1 ≡ c.args.left - (c.loop-passed.passed + 1) = omega arith in
    c.loop-passed.invariant ∙ size_through _ _ _ _ _ deep _ c.type_by_id-t.ensures _ c.of.ensures c.in-Typedef.is
    ∙ ap (λ (n : ℕ). get_size_of n (btf_of c.args.b.now.head c.args.b.now.section.now c.args.work.now) c.type_by_id-t.result.type_id) fewer

pub returns : goal.returns
returns t c =
    let done : c.args.left - c.loop-passed.passed ≡ 0 = omega arith in
    size_deep _ _ _ _ _ done ∙ sym c.loop-passed.invariant

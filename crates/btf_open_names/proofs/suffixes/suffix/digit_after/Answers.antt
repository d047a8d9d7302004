use Prim.Native.Nat.{◌+◌, ◌-◌, ◌*◌, ◌<◌}
use mathlib.Core.Path.{refl, sym, ◌∙◌}
use native.Mathlib.Omega.{arith}
use Rattle.btf_open_names.proofs.filled_work.Bytes.{digit_not, digit_past, digit_next}
use Rattle.btf_open_names.proofs.suffixes.Found.{unless_none, unless_some}
use Rattle.btf_open_names.proofs.suffixes.suffix.digit_after.Goals as goal

pub returns-then-not-is_ascii_digit : goal.returns-then-not-is_ascii_digit
returns-then-not-is_ascii_digit c = let f = c.if-not-is_ascii_digit.ensures in unless_none _ (digit_not _ _ f.cases)

pub returns-in_err-checked_mul : goal.returns-in_err-checked_mul
returns-in_err-checked_mul c =
    let f = c.if-not-is_ascii_digit.ensures in
    let g : c.args.acc * 10 < 4294967296 → ⊥ = c.in_err-checked_mul.ensures in
    c.from_residual.ensures ∙ unless_none _ (digit_past _ _ _ (omega (arith, f.cases)) (omega (arith, f.cases)) refl (omega arith))

pub returns-in_err-v : goal.returns-in_err-v
returns-in_err-v c =
    let f = c.if-not-is_ascii_digit.ensures in
    let m = c.in_ok-checked_mul.ensures in
    let g : c.in_ok-checked_mul.field-0 + (c.args.x - 48) < 4294967296 → ⊥ = c.in_err-v.ensures in
    c.from_residual-in_err-v.ensures ∙ unless_none _ (digit_past _ _ _ (omega (arith, f.cases)) (omega (arith, f.cases)) refl (omega (arith, m, g)))

pub returns-then-v-eq0 : goal.returns-then-v-eq0
returns-then-v-eq0 c =
    let f = c.if-not-is_ascii_digit.ensures in
    let m = c.in_ok-checked_mul.ensures in
    let g = c.in_ok-v.ensures in
    unless_none _ (sym c.if-v-eq0.true ∙ digit_next _ _ _ (omega (arith, f.cases)) (omega (arith, f.cases)) (omega (arith, m, g)) (omega (arith, g)))

pub returns : goal.returns
returns c =
    let f = c.if-not-is_ascii_digit.ensures in
    let m = c.in_ok-checked_mul.ensures in
    let g = c.in_ok-v.ensures in
    unless_some _ _ c.if-v-eq0.false (digit_next _ _ _ (omega (arith, f.cases)) (omega (arith, f.cases)) (omega (arith, m, g)) (omega (arith, g)))

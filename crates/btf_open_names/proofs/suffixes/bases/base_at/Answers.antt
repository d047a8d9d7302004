use Prim.Native.Nat.{ℕ}
use native.Mathlib.Omega.{arith}
use mathlib.Core.List.{List}
use mathlib.Core.Path.{ap, ◌∙◌}
use Rattle.btf_open_names.specs.filled_work.Takers.{suffix_on}
use Rattle.btf_open_names.specs.keys.Keys.{key_list}
use Rattle.btf_open_names.proofs.suffixes.Based.{with_none, with_some}
use Rattle.btf_open_names.proofs.suffixes.bases.base_at.Goals as goal

pub returns-in_err-number : goal.returns-in_err-number
returns-in_err-number c =
    let e = c.in_err-number.ensures ∙ ap (λ (l : List ℕ). suffix_on l (key_list c.args.b.now.section.now c.args.key)) c.load_key.ensures in
    c.from_residual.ensures ∙ with_none _ _ (omega (arith, e))

pub returns-then-number-lt-FIRST_SUFFIX : goal.returns-then-number-lt-FIRST_SUFFIX
returns-then-number-lt-FIRST_SUFFIX c =
    let e = c.in_ok-number.ensures ∙ ap (λ (l : List ℕ). suffix_on l (key_list c.args.b.now.section.now c.args.key)) c.load_key.ensures in
    with_none _ _ (omega (arith, e))

pub returns : goal.returns
returns c =
    let e = c.in_ok-number.ensures ∙ ap (λ (l : List ℕ). suffix_on l (key_list c.args.b.now.section.now c.args.key)) c.load_key.ensures in
    with_some _ _ _ e (omega arith)

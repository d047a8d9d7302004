use native.Mathlib.Omega.{arith}
use mathlib.Core.Path.{ap, ◌∙◌}
use Prim.Native.Nat.{ℕ, ◌+◌}
use Rattle.spec_type_table.specs.Numbers.{capped}
use Rattle.btf_open_names.proofs.numbers.Lists.{capped_is}
use Rattle.btf_open_names.proofs.numbers.Taken.step.Goals as goal

pub returns : goal.returns
returns c =
    capped_is (c.args.k + c.count_below.result) _ (λ l. omega (arith, c.saturating_add.ensures)) (λ l. omega (arith, c.saturating_add.ensures))
    ∙ ap (λ (n : ℕ). capped (c.args.k + n)) c.count_below.ensures

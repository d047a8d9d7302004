use native.Mathlib.Omega.{arith}
use Rattle.btf_open_names.proofs.numbers.Lists.{if_above, if_at_most}
use Rattle.btf_open_names.proofs.numbers.add_if.Goals as goal

pub returns-then-n-t : goal.returns-then-n-t
returns-then-n-t c = if_above _ _ _ c.if-n-t.true

pub returns-else-n-t : goal.returns-else-n-t
returns-else-n-t c = if_at_most _ _ _ c.if-n-t.false _ (λ l. omega (arith, c.saturating_add.ensures)) (λ l. omega (arith, c.saturating_add.ensures))

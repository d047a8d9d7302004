use native.Mathlib.Omega.{arith}
use mathlib.Core.Path.{refl, ◌∙◌}
use Rattle.spec_type_table.proofs.NameLaws as names
use Rattle.btf_type_table.proofs.escape.put_escaped.Goals as goal

pub loop-c-init : goal.loop-c-init
loop-c-init c = (names.escape_none _ _ _, refl)

pub loop-c-preserved : goal.loop-c-preserved
loop-c-preserved c = (names.escape_more _ _ _ _ _ _ c.loop-c.invariant.0 _ _ c.loop-c-test.true c.in_ok-p.ensures, c.put_escaped_byte.auto.text ∙ c.loop-c.invariant.1)

pub returns : goal.returns
returns c = names.escape_all _ _ _ _ _ _ c.loop-c.invariant.0 (omega arith)

pub returns-in_err-p : goal.returns-in_err-p
returns-in_err-p c = names.escape_stops _ _ _ _ _ _ _ (names.escape_more _ _ _ _ _ _ c.loop-c.invariant.0 _ _ c.loop-c-test.true c.in_err-p.ensures) c.from_residual.ensures.1

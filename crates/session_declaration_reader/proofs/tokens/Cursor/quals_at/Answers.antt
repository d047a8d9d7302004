use native.Mathlib.Omega.{arith}
use Rattle.session_declaration_reader.proofs.bases.BaseLaws as laws
use Rattle.session_declaration_reader.proofs.tokens.Cursor.quals_at.Goals as goal

pub loop-i-init : goal.loop-i-init
loop-i-init c = laws.gathered_none _ _

pub returns-in_default : goal.returns-in_default
returns-in_default c = laws.gathered_all _ _ _ _ _ c.loop-i.invariant _ c.token-t.ensures c.in_default.not-Qualifier

pub returns-then-contains : goal.returns-then-contains
returns-then-contains c = laws.gathered_twice _ _ _ _ _ c.loop-i.invariant _ c.token-t.ensures _ c.in-Qualifier.is _ c.contains.ensures.value c.if-contains.true

pub loop-i-preserved : goal.loop-i-preserved
loop-i-preserved c = laws.gathered_more _ _ _ _ _ c.loop-i.invariant _ c.token-t.ensures _ c.in-Qualifier.is c.loop-i-test.true _ c.contains.ensures.value c.if-contains.false

pub returns-in-Qualifier-kind : goal.returns-in-Qualifier-kind
returns-in-Qualifier-kind c = laws.gathered_four _ _ _ _ _ c.loop-i.invariant _ c.token-t-2.ensures _ c.in-Qualifier-kind.is (omega arith)

pub returns : goal.returns
returns c = laws.gathered_all _ _ _ _ _ c.loop-i.invariant _ c.token-t-2.ensures c.in_default-kind.not-Qualifier

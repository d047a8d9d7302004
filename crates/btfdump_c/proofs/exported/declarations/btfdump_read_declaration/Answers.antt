use Rattle.spec_c_calls.proofs.ReadingBack as back
use lib.ListN.{length}
use Prim.Native.Nat.{◌≤◌}
use native.Mathlib.Omega.{arith}
use Rattle.btfdump_c.proofs.exported.NumberLaws as numbers
use Rattle.btfdump_c.proofs.exported.declarations.btfdump_read_declaration.Goals as goal

pub returns-then-chain-lt-CHAIN_WORDS : goal.returns-then-chain-lt-CHAIN_WORDS
returns-then-chain-lt-CHAIN_WORDS c = back.read_short _ _ c.if-chain-lt-CHAIN_WORDS.true

pub returns-in-None : goal.returns-in-None
returns-in-None c = let h : 1536 ≤ length c.args.chain.now = omega arith in rw (c.number_or_value.ensures, numbers.undeclared) (back.read_refused _ _ h _ _ c.read_declaration.ensures c.in-None.is)

pub returns-in-Some : goal.returns-in-Some
returns-in-Some c = let h : 1536 ≤ length c.args.chain.now = omega arith in back.read_good _ _ h _ _ c.read_declaration.ensures _ c.in-Some.is

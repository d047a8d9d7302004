use Rattle.session_declaration_reader.proofs.reader.ReadLaws as laws
use Rattle.std.proofs.Common.{rules}
use Rattle.session_declaration_reader.proofs.reader.read_chain.Goals as goal

pub returns-in_err-base : goal.returns-in_err-base
returns-in_err-base c = laws.none_out _ _ _ _ c.from_residual.ensures (laws.read_baseless _ c.args.words.now c.in_err-base.ensures)

pub returns-in_err-at : goal.returns-in_err-at
returns-in_err-at c = laws.none_out _ _ _ _ c.from_residual-in_err-at.ensures (laws.read_fails _ _ _ c.in_ok-base.ensures _ c.in_err-at.ensures.read)

pub returns-in_default : goal.returns-in_default
returns-in_default c = laws.read_behind _ _ _ c.in_ok-base.ensures _ _ _ c.in_ok-at.ensures.read _ c.token.ensures c.in_default.not-End

pub returns-then-is_longer : goal.returns-then-is_longer
returns-then-is_longer c = laws.read_over _ _ _ c.in_ok-base.ensures _ _ _ c.in_ok-at.ensures.read _ c.token.ensures c.in-End.is _ _ c.put_base.ensures.stored c.if-is_longer.true

pub returns : goal.returns
returns c = laws.read_good _ _ _ c.in_ok-base.ensures _ _ _ c.in_ok-at.ensures.read _ c.token.ensures c.in-End.is _ _ c.put_base.ensures.stored c.if-is_longer.false _ (search rules)

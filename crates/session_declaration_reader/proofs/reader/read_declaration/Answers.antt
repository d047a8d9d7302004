use Rattle.session_declaration_reader.proofs.reader.ReadLaws as laws
use mathlib.Core.Path.{ap, ◌∙◌}
use mathlib.Core.Bool.{not}
use Rattle.session_declaration_reader.proofs.reader.read_declaration.Goals as goal

pub returns-then-is_none : goal.returns-then-is_none
returns-then-is_none c = laws.read_none _ _ _ _ c.read_chain-n.ensures (c.is_none.ensures ∙ ap not c.if-is_none.true) _ (c.fill.ensures.after (λ y e. e)) c.read_chain-n.auto.words

pub returns-else-is_none : goal.returns-else-is_none
returns-else-is_none c = laws.read_some _ _ _ _ c.read_chain-n.ensures (c.is_none.ensures ∙ ap not c.if-is_none.false)

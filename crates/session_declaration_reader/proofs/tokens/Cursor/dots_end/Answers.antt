use mathlib.Core.Path.{sym, ◌∙◌}
use Rattle.session_declaration_reader.proofs.grammar.ParseLaws as laws
use Rattle.session_declaration_reader.proofs.tokens.Cursor.dots_end.Goals as goal

pub returns-then-not-is_mark-clause-read : goal.returns-then-not-is_mark-clause-read
returns-then-not-is_mark-clause-read c = laws.dots_open _ _ _ _ _ c.token-t.ensures (sym c.is_mark.ensures ∙ c.if-not-is_mark.true) _

pub returns-clause-read : goal.returns-clause-read
returns-clause-read c = laws.dots_good _ _ _ _ _ c.token-t.ensures (sym c.is_mark.ensures ∙ c.if-not-is_mark.false) _ _ c.put_entry.ensures.stored

use mathlib.Core.Path.{◌∙◌, sym}
use Rattle.session_declaration_reader.proofs.bases.BaseLaws as laws
use Rattle.session_declaration_reader.proofs.tokens.Cursor.is_bracketed.Goals as goal

pub returns-then-not-is_mark : goal.returns-then-not-is_mark
returns-then-not-is_mark c = laws.bracket_not _ _ c.token-t.ensures.kind_is (sym c.is_mark.ensures ∙ c.if-not-is_mark.true)

pub returns : goal.returns
returns c =
    c.is_mark-2.ensures ∙ laws.bracket_next _ _ c.token-t.ensures.kind_is (sym c.is_mark.ensures ∙ c.if-not-is_mark.false) _ c.token-t.ensures.rest_is _ c.token-u.ensures.kind_is

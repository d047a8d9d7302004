use Rattle.session_declaration_reader.proofs.bases.BaseLaws as laws
use Rattle.session_declaration_reader.proofs.tokens.Cursor.behind_void.Goals as goal

pub returns-in_default : goal.returns-in_default
returns-in_default c = laws.void_not _ _ c.token-t.ensures.kind_is c.in_default.not-Void

pub returns : goal.returns
returns c = laws.void_next _ _ c.token-t.ensures.kind_is c.in-Void.is _ c.token-t.ensures.rest_is _ c.token-u.ensures.kind_is

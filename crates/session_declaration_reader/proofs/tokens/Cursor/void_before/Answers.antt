use Rattle.std.proofs.Common.{rules}
use Rattle.session_declaration_reader.proofs.bases.BaseLaws as laws
use Rattle.session_declaration_reader.proofs.tokens.Cursor.void_before.Goals as goal

pub returns : goal.returns
returns c = laws.void_mark c.args.mark _ _ (λ g q. search rules) _ _ c.behind_void-behind.ensures c.is_some_and.ensures

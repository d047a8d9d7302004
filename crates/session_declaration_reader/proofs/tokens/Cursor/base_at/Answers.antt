use Rattle.session_declaration_reader.proofs.bases.BaseLaws as laws
use Rattle.session_declaration_reader.proofs.tokens.Cursor.base_at.Goals as goal

pub returns-in_err-quals : goal.returns-in_err-quals
returns-in_err-quals c = rw c.from_residual.ensures (laws.base_quals _ _ _ c.in_err-quals.ensures)

pub returns-in_err-end : goal.returns-in_err-end
returns-in_err-end c = rw c.from_residual-in_err-end.ensures (laws.base_words_not _ _ _ _ c.in_ok-quals.ensures c.in_err-end.ensures)

pub returns : goal.returns
returns c = laws.base_good _ _ _ _ c.in_ok-quals.ensures _ c.in_ok-end.ensures _ c.token-t.ensures

use Rattle.session_declaration_reader.proofs.tokens.Cursor.ends_name.Goals.{then-is_word-via-then-is_word, then-is_word-via-else-is_word+then-is_mark}
use mathlib.Core.Path.{◌∙◌, sym}
use Rattle.session_declaration_reader.proofs.bases.BaseLaws as laws
use Rattle.session_declaration_reader.proofs.tokens.Cursor.ends_name.Goals as goal

pub returns-then-is_word : goal.returns-then-is_word
returns-then-is_word c = elim c.then-is_word.branch [
  | then-is_word-via-then-is_word w ↦ laws.name_word _ _ c.token-t.ensures.kind_is _ c.is_word.ensures w.if-is_word.true
  | then-is_word-via-else-is_word+then-is_mark w ↦
      laws.name_star _ _ c.token-t.ensures.kind_is _ c.is_word.ensures w.if-is_word.false (sym w.is_mark.ensures ∙ w.if-is_mark.true)
]

pub returns : goal.returns
returns c = laws.name_end _ _ c.token-t.ensures.kind_is _ c.is_word.ensures c.if-is_word.false (sym c.is_mark.ensures ∙ c.if-is_mark.false) _ c.is_bracketed.ensures

use Rattle.session_declaration_reader.proofs.tokens.Cursor.base_word.Goals.{else-named-via-then-named+else-ends_name, else-named-via-else-named}
use Rattle.session_declaration_reader.proofs.bases.BaseLaws as laws
use mathlib.Core.Path.{ap, sym, ◌∙◌}
use mathlib.Core.Bool.{not}
use Rattle.session_declaration_reader.proofs.tokens.Cursor.base_word.Goals as goal

pub returns-then-not-is_word : goal.returns-then-not-is_word
returns-then-not-is_word c = laws.base_none _ _ c.token-t.ensures.kind_is _ c.is_word.ensures _ c.if-not-is_word.true

pub returns-then-ends_name : goal.returns-then-ends_name
returns-then-ends_name c =
    ap not (sym c.if-ends_name.true)
    ∙ laws.base_named _ _ c.token-t.ensures.kind_is _ c.is_word.ensures _ c.if-named.true c.if-not-is_word.false _ c.token-t.ensures.rest_is _ c.ends_name.ensures

pub returns : goal.returns
returns c = elim c.else-named.branch [
  | else-named-via-then-named+else-ends_name w ↦ (
    c.token-t.ensures,
    ap not (sym w.if-ends_name.false)
        ∙ laws.base_named _ _ c.token-t.ensures.kind_is _ c.is_word.ensures _ w.if-named.true c.if-not-is_word.false _ c.token-t.ensures.rest_is _ w.ends_name.ensures,
  )
  | else-named-via-else-named w ↦ (c.token-t.ensures, laws.base_unnamed _ _ c.token-t.ensures.kind_is _ c.is_word.ensures _ w.if-named.false c.if-not-is_word.false)
]

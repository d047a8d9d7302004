use Rattle.std.proofs.Common.{rules}
use Rattle.std.proofs.lemmas.Iterator.{YieldsList-from_slice}
use Rattle.std.proofs.lemmas.Iterator.Search.{all_from_yields_List}
use Rattle.session_declaration_reader.specs.tokens.Tokens.{is_word_byte}
use Rattle.session_declaration_reader.proofs.tokens.Bytes as bytes
use Rattle.session_declaration_reader.proofs.tokens.identifier.Goals as goal

pub returns-in_default : goal.returns-in_default
returns-in_default c = bytes.word_empty _ c.in_default.ensures.cases

pub returns-then-is_letter : goal.returns-then-is_letter
returns-then-is_letter c =
    bytes.word_rest _ _ _ c.in-Some.ensures.cases.0 _ c.is_letter.ensures c.if-is_letter.true _
    (all_from_yields_List is_word_byte _ _ _ c.all.ensures.ran (YieldsList-from_slice c.in-Some.rest.now c.iter.ensures.rest) (λ x b q k. search rules))

pub returns-else-is_letter : goal.returns-else-is_letter
returns-else-is_letter c = bytes.word_first _ _ _ c.in-Some.ensures.cases.0 _ c.is_letter.ensures c.if-is_letter.false

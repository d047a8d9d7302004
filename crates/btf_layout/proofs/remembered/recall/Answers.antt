use mathlib.Core.Path.{ap, ◌∙◌, sym}
use Rattle.btf_layout.specs.remembered.Words.{decoded}
use Rattle.btf_layout.proofs.remembered.Laws.{seen_in, seen_past, decoded_none}
use Rattle.btf_layout.proofs.remembered.recall.Goals as goal

pub returns-then-b-id : goal.returns-then-b-id
returns-then-b-id c = decoded_none _ (seen_past _ _ _ c.if-b-id.true)

pub returns : goal.returns
returns c = c.from_word.ensures ∙ ap decoded (c.get_field.ensures ∙ sym (seen_in _ _ _ c.if-b-id.false))

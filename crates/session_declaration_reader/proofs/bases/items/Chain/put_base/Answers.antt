use mathlib.Core.Path.{ap, ◌∙◌}
use mathlib.Core.List.{[], ◌∷◌}
use Rattle.session_declaration_reader.specs.bases.Items.{Item, placing}
use Rattle.session_declaration_reader.proofs.bases.ItemLaws as items
use Rattle.session_declaration_reader.proofs.bases.items.Chain.put_base.Goals as goal

pub returns-clause-stored : goal.returns-clause-stored
returns-clause-stored c =
    items.base_put _ _ _ _ _ _ _ _ _ _ _ c.put_quals.ensures.stored c.saturating_sub-length.ensures
    (c.put_entry.ensures.stored ∙ ap (λ (i : Item). placing c.put_quals.new.self.words.now c.put_quals.new.self.n (i ∷ [])) c.base_entry.ensures)

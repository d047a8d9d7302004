use Rattle.session_declaration_reader.proofs.bases.ItemLaws as items
use Rattle.session_declaration_reader.proofs.bases.items.Chain.put_entry.Goals as goal

pub returns-clause-stored : goal.returns-clause-stored
returns-clause-stored c = items.entry_put _ _ _ _ c.from.ensures _ c.put_words.ensures.stored

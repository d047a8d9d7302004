use Rattle.session_declaration_reader.proofs.bases.ItemLaws as items
use Rattle.session_declaration_reader.proofs.bases.items.Chain.put_qual.Goals as goal

pub returns-in_default-clause-stored : goal.returns-in_default-clause-stored
returns-in_default-clause-stored c = items.qual_not _ _ _ c.in_default.not-Some

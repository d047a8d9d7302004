use mathlib.Core.Path.{◌∙◌}
use Rattle.session_record.proofs.numbered.Laws as laws
use Rattle.session_record.proofs.numbered.answered_number.Goals as goal

pub returns : goal.returns
returns c = (c.pack.ensures ∙ laws.packed_is _ _, c.store.ensures)

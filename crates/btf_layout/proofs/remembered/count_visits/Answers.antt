use Rattle.btf_layout.proofs.remembered.Laws.{visits_counted}
use Rattle.btf_layout.proofs.remembered.count_visits.Goals as goal

pub returns : goal.returns
returns c = visits_counted _ _ _ _ _ _ c.get_field.ensures c.saturating_add.ensures c.saturating_add-visits.ensures c.put_field.ensures

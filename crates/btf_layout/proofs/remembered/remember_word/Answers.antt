use Rattle.btf_layout.proofs.remembered.Laws.{remember_here, remember_none, remember_past}
use Rattle.btf_layout.proofs.remembered.remember_word.Goals as goal
use Rattle.btf_layout.proofs.remembered.remember_word.Goals.{then-v-eq0-via-then-v-eq0, then-v-eq0-via-else-v-eq0+then-b-id}

pub returns-then-v-eq0 : goal.returns-then-v-eq0
returns-then-v-eq0 c =
    elim c.then-v-eq0.branch [
      | then-v-eq0-via-then-v-eq0 w ↦ remember_none _ _ _ _ _ w.if-v-eq0.true
      | then-v-eq0-via-else-v-eq0+then-b-id w ↦ remember_past _ _ _ _ _ w.if-v-eq0.false w.if-b-id.true
    ]

pub returns : goal.returns
returns c = remember_here _ _ _ _ _ c.if-v-eq0.false c.if-b-id.false _ _ c.count_visits.ensures c.put_field.ensures

use Rattle.btf_layout.proofs.remembered.Laws.{decoded_none, decoded_some}
use Rattle.btf_layout.proofs.remembered.Seen.from_word.Goals as goal

pub returns-then-v-eq0 : goal.returns-then-v-eq0
returns-then-v-eq0 c = decoded_none _ c.if-v-eq0.true

pub returns : goal.returns
returns c = decoded_some _ c.if-v-eq0.false

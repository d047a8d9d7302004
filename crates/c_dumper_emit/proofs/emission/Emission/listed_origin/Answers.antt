use Rattle.c_dumper_emit.proofs.entries.Laws as laws
use Rattle.c_dumper_emit.proofs.emission.Emission.listed_origin.Goals as goal

pub returns-then-id-self : goal.returns-then-id-self
returns-then-id-self c = laws.entry_by _ _ _ _ _ c.from.ensures (laws.cause_own _ _ _ _ c.if-id-self.true)

pub returns : goal.returns
returns c = laws.entry_by _ _ _ _ _ c.from-2.ensures (laws.cause_leader _ _ _ _ _ c.if-id-self.false c.leader_of.ensures)

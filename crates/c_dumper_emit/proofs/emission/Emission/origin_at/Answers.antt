use Rattle.c_dumper_emit.proofs.entries.Laws as laws
use Rattle.c_dumper_emit.proofs.emission.Emission.origin_at.Goals as goal

pub returns-then-cont-eq0 : goal.returns-then-cont-eq0
returns-then-cont-eq0 c = laws.cause_top _ _ _ _ _ c.if-cont-eq0.true c.listed_origin.ensures

pub returns : goal.returns
returns c = laws.cause_within _ _ _ _ c.if-cont-eq0.false

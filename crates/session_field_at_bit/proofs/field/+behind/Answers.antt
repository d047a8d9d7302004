use Rattle.session_field_at_bit.proofs.field.Laws as laws
use Rattle.session_field_at_bit.proofs.field.+behind.Goals as goal

pub returns-then-left-eq0 : goal.returns-then-left-eq0
returns-then-left-eq0 t c = laws.behind_none _ _ _ _ _ c.if-left-eq0.true

pub returns-in-Through : goal.returns-in-Through
returns-in-Through t c = laws.behind_through _ _ _ _ _ c.if-left-eq0.false _ c.type_by_id.ensures _ c.shape_of.ensures _ _ c.in-Through.is c.behind.ensures

pub returns-in_default : goal.returns-in_default
returns-in_default t c = laws.behind_other _ _ _ _ _ c.if-left-eq0.false _ c.type_by_id.ensures _ c.shape_of.ensures c.in_default.not-Through

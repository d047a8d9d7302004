use Rattle.spec_type_table.proofs.Laws as laws
use Rattle.btf_type_table.proofs.table.Table.type_by_id.Goals as goal

pub returns-then-id-eq0 : goal.returns-then-id-eq0
returns-then-id-eq0 c = laws.void_zero _ _ _ _ _ c.if-id-eq0.true (laws.void_is c.args.self.now.head c.args.self.now.section.now _ c.default.ensures)

pub returns-then-self-id : goal.returns-then-self-id
returns-then-self-id c = laws.void_past _ _ _ _ _ c.if-id-eq0.false c.if-self-id.true (laws.void_is c.args.self.now.head c.args.self.now.section.now _ c.default-then-self-id.ensures)

pub returns : goal.returns
returns c = laws.by_id _ _ _ _ _ _ c.if-id-eq0.false c.if-self-id.false c.get_field.ensures c.load_type.ensures

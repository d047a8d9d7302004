use Rattle.btf_layout.proofs.asked.Laws.{union_struct, union_asked}
use Rattle.btf_layout.proofs.asked.union_align.Goals as goal

pub returns-then-is_struct : goal.returns-then-is_struct
returns-then-is_struct c = union_struct _ _ _ _ _ _ c.is_struct.ensures c.if-is_struct.true

pub returns : goal.returns
returns c = union_asked _ _ _ _ _ _ c.is_struct.ensures c.if-is_struct.false _ _ c.alignment.ensures

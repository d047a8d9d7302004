use Rattle.c_dumper_padding.proofs.extents.Laws.{size_plain, size_field}
use Rattle.c_dumper_padding.proofs.extents.field_size.Goals as goal

pub returns-then-m-eq0 : goal.returns-then-m-eq0
returns-then-m-eq0 c = size_plain _ _ _ _ c.if-m-eq0.true

pub returns : goal.returns
returns c = size_field _ _ _ _ c.if-m-eq0.false _ c.get_size_of.ensures

use Rattle.btf_open_names.proofs.filled_work.Filled.{enum_is, enum_not, enum_put, enum_left}
use Rattle.btf_open_names.proofs.fill.fill_enum.Goals as goal

pub returns-in-Enum : goal.returns-in-Enum
returns-in-Enum c = enum_put _ _ _ _ _ _ (enum_is _ _ c.kind.ensures c.in-Enum.is) _ _ c.put_field.ensures c.fill_values.ensures

pub returns-in_default : goal.returns-in_default
returns-in_default c = enum_left _ _ _ _ _ _ (enum_not _ _ c.kind.ensures c.in_default.not-Enum c.in_default.not-Enum64)

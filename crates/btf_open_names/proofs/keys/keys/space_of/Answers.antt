use Rattle.btf_open_names.proofs.keys.Spaces.{tag_space, typedef_space, no_space}
use Rattle.btf_open_names.proofs.keys.keys.space_of.Goals as goal

pub returns-in-Struct : goal.returns-in-Struct
returns-in-Struct c = tag_space _ _ c.of.ensures c.in-Struct.is

pub returns-in-Typedef : goal.returns-in-Typedef
returns-in-Typedef c = typedef_space _ _ c.of.ensures c.in-Typedef.is

pub returns-in_default : goal.returns-in_default
returns-in_default c = no_space _ _ c.of.ensures c.in_default.not-Struct c.in_default.not-Union c.in_default.not-Enum c.in_default.not-Fwd c.in_default.not-Typedef c.in_default.not-Enum64

use Rattle.std.proofs.Common.{ap, ◌∙◌}
use Rattle.spec_type_table.specs.Kinds.{kind_named}
use Rattle.btf_open_causes.proofs.references.Accessors.{kind_is}
use Rattle.btf_open_causes.proofs.references.index.Index.kind_at.Goals as goal

pub returns : goal.returns
returns c = c.kind.ensures ∙ ap kind_named (kind_is _ _ _ _ c.entry.ensures)

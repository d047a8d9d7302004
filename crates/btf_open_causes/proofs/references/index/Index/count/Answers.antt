use Rattle.std.proofs.Common.{rules}
use Rattle.btf_open_causes.specs.references.Followed.{type_count}
use Rattle.btf_open_causes.proofs.references.index.Index.count.Goals as goal

pub returns : goal.returns
unfolding type_count
returns c = search rules

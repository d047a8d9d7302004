use Rattle.std.proofs.Common.{◌∙◌}
use Rattle.btf_open_causes.proofs.references.Accessors.{entry_in}
use Rattle.btf_open_causes.specs.references.Bounds.{entry_void, entry_out}
use Rattle.btf_open_causes.proofs.references.index.Index.entry.Goals as goal
use Rattle.btf_open_causes.proofs.references.index.Index.entry.Goals.{then-x-eq0-via-then-x-eq0, then-x-eq0-via-else-x-eq0+then-count-x}

pub returns-then-x-eq0 : goal.returns-then-x-eq0
returns-then-x-eq0 c =
    elim c.then-x-eq0.branch [
      | then-x-eq0-via-then-x-eq0 w ↦ entry_void _ _ _ w.if-x-eq0.true
      | then-x-eq0-via-else-x-eq0+then-count-x w ↦ entry_out _ _ _ w.if-x-eq0.false _ w.count.ensures w.if-count-x.true
    ]

pub returns : goal.returns
returns c = c.peek.ensures ∙ entry_in _ _ _ c.if-x-eq0.false _ c.count.ensures c.if-count-x.false

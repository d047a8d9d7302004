use mathlib.Core.Path.{◌∙◌}
use Rattle.btf_open_causes.proofs.records.Pass.{out_unsound, section_past, section_pass}
use Rattle.btf_open_causes.proofs.records.scan.Goals as goal

pub returns-then-end-gt-MOST_BYTES_64 : goal.returns-then-end-gt-MOST_BYTES_64
returns-then-end-gt-MOST_BYTES_64 c = out_unsound _ ∙ section_past _ _ _ _ c.btf_header-h.ensures c.if-end-gt-MOST_BYTES_64.true

pub returns : goal.returns
returns c = section_pass _ _ _ _ c.btf_header-h.ensures c.if-end-gt-MOST_BYTES_64.false _ c.scan.ensures

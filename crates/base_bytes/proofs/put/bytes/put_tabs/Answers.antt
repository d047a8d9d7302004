use Rattle.spec_bytes.proofs.text.TextLaws.{put_same, pfx_one, tabs_taken}
use Rattle.base_bytes.proofs.put.bytes.put_tabs.Goals as goal

pub returns-then-lvl-eq1 : goal.returns-then-lvl-eq1
returns-then-lvl-eq1 c = put_same _ _ _ _ _ _ (pfx_one _ c.if-lvl-eq1.true) c.put_byte.ensures

pub returns : goal.returns
returns c = put_same _ _ _ _ _ _ (tabs_taken _ _ c.min.ensures) c.put_bytes.ensures

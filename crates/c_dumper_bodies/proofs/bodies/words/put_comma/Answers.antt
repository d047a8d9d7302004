use Rattle.c_dumper_bodies.proofs.bodies.WordLaws as laws
use Rattle.spec_bytes.proofs.text.TextLaws.{put_same, put_empty}
use Rattle.c_dumper_bodies.proofs.bodies.words.put_comma.Goals as goal

pub returns-then-k-eq0 : goal.returns-then-k-eq0
returns-then-k-eq0 c = put_same _ _ _ _ _ _ (laws.comma_first _ c.if-k-eq0.true) (put_empty _ _)

pub returns : goal.returns
returns c = put_same _ _ _ _ _ _ (laws.comma_more _ c.if-k-eq0.false) c.put_bytes.ensures

use Rattle.c_dumper_bodies.proofs.bodies.WordLaws as laws
use Rattle.spec_bytes.proofs.text.TextLaws.{put_same, put_empty}
use Rattle.c_dumper_bodies.proofs.bodies.words.put_last_newline.Goals as goal

pub returns-then-vlen-eq0 : goal.returns-then-vlen-eq0
returns-then-vlen-eq0 c = put_same _ _ _ _ _ _ (laws.line_none _ c.if-vlen-eq0.true) (put_empty _ _)

pub returns : goal.returns
returns c = put_same _ _ _ _ _ _ (laws.line_some _ c.if-vlen-eq0.false) c.put_byte.ensures

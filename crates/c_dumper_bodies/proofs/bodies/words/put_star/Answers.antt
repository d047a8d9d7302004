use Rattle.c_dumper_bodies.proofs.bodies.WordLaws as laws
use Rattle.spec_bytes.proofs.text.TextLaws.{put_same}
use Rattle.c_dumper_bodies.proofs.bodies.words.put_star.Goals as goal

pub returns-then-last_was_ptr : goal.returns-then-last_was_ptr
returns-then-last_was_ptr c = put_same _ _ _ _ _ _ (laws.star_after _ c.if-last_was_ptr.true) c.put_byte.ensures

pub returns : goal.returns
returns c = put_same _ _ _ _ _ _ (laws.star_apart _ c.if-last_was_ptr.false) c.put_bytes.ensures

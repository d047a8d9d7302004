use mathlib.Core.Path.{◌∙◌, sym}
use Rattle.c_dumper_bodies.proofs.bodies.WordLaws as laws
use Rattle.spec_bytes.proofs.text.TextLaws.{put_same, put_empty}
use Rattle.c_dumper_bodies.proofs.bodies.words.put_gap.Goals as goal
use Rattle.c_dumper_bodies.proofs.bodies.words.put_gap.Goals.{then-last_was_ptr-via-then-last_was_ptr, then-last_was_ptr-via-else-last_was_ptr+then-is_blank}

pub returns-then-last_was_ptr : goal.returns-then-last_was_ptr
returns-then-last_was_ptr c = elim c.then-last_was_ptr.branch [
  | then-last_was_ptr-via-then-last_was_ptr w ↦ put_same _ _ _ _ _ _ (laws.gap_ptr _ _ w.if-last_was_ptr.true) (put_empty _ _)
  | then-last_was_ptr-via-else-last_was_ptr+then-is_blank w ↦ put_same _ _ _ _ _ _ (laws.gap_blank _ _ (sym w.is_blank.ensures ∙ w.if-is_blank.true)) (put_empty _ _)
]

pub returns : goal.returns
returns c = put_same _ _ _ _ _ _ (laws.gap_space _ _ c.if-last_was_ptr.false (sym c.is_blank.ensures ∙ c.if-is_blank.false)) c.put_byte.ensures

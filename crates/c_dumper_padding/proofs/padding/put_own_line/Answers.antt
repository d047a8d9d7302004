use Rattle.c_dumper_padding.proofs.pads.Placing.{lone_none, lone_line_lem}
use Rattle.spec_bytes.proofs.text.TextLaws.{put_same, put_empty}
use Rattle.c_dumper_padding.proofs.padding.put_own_line.Goals as goal

pub returns-then-members-ne0 : goal.returns-then-members-ne0
returns-then-members-ne0 c = put_same _ _ _ _ _ _ (lone_none _ c.if-members-ne0.true) (put_empty _ _)

pub returns : goal.returns
returns c = put_same _ _ _ _ _ _ (lone_line_lem _ c.if-members-ne0.false) c.put_byte.ensures

use Rattle.spec_bytes.proofs.text.TextLaws.{put_seq, put_ended}
use Rattle.session_cut_marks.specs.mentioned.Strings.{strings_bytes}
use Rattle.session_cut.specs.writer.Bytes.{part_bytes}
use Rattle.session_cut.proofs.writer.source.Source.put_strings.Goals as goal

pub returns-in_err-p : goal.returns-in_err-p
unfolding strings_bytes part_bytes
returns-in_err-p c = put_seq _ _ _ _ _ _ _ _ c.in_err-p.ensures (put_ended _ _ _ _ c.from_residual.ensures.1)

pub returns : goal.returns
unfolding strings_bytes part_bytes
returns c = put_seq _ _ _ _ _ _ _ _ c.in_ok-p.ensures c.put_part.ensures

use Rattle.spec_bytes.proofs.text.TextLaws.{put_past, put_ended}
use Rattle.session_cut.proofs.writer.Laws.{all_put}
use Rattle.session_cut.specs.writer.Bytes.{part_bytes}
use Rattle.session_cut.proofs.writer.source.Source.put_all.Goals as goal

pub returns-in_err-p : goal.returns-in_err-p
unfolding part_bytes
returns-in_err-p c = all_put _ _ _ _ _ _ _ _ _ _ _ _ _ _ _ c.peek-flags.ensures c.in_err-p.ensures (put_past _ _ _) (put_ended _ _ _ _ c.from_residual.ensures.1)

pub returns-in_err-q : goal.returns-in_err-q
unfolding part_bytes
returns-in_err-q c = all_put _ _ _ _ _ _ _ _ _ _ _ _ _ _ _ c.peek-flags.ensures c.in_ok-p.ensures c.in_err-q.ensures (put_ended _ _ _ _ c.from_residual-in_err-q.ensures.1)

pub returns : goal.returns
unfolding part_bytes
returns c = all_put _ _ _ _ _ _ _ _ _ _ _ _ _ _ _ c.peek-flags.ensures c.in_ok-p.ensures c.in_ok-q.ensures c.put_strings.ensures

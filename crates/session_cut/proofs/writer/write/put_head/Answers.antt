use Rattle.spec_bytes.proofs.text.TextLaws.{put_past, put_ended}
use Rattle.session_cut.proofs.writer.Laws.{head_put}
use Rattle.session_cut.proofs.writer.write.put_head.Goals as goal

pub returns : goal.returns
returns c = head_put _ _ _ _ _ _ _ _ _ _ _ _ _ _ _ _ _ c.in_ok-p0.ensures c.in_ok-p1.ensures c.in_ok-p2.ensures c.in_ok-p3.ensures c.in_ok-p4.ensures c.put_word-5.ensures

pub returns-in_err-p0 : goal.returns-in_err-p0
returns-in_err-p0 c = head_put _ _ _ _ _ _ _ _ _ _ _ _ _ _ _ _ _ c.in_err-p0.ensures (put_past _ _ _) (put_past _ _ _) (put_past _ _ _) (put_past _ _ _) (put_ended _ _ _ _ c.from_residual.ensures.1)

pub returns-in_err-p1 : goal.returns-in_err-p1
returns-in_err-p1 c = head_put _ _ _ _ _ _ _ _ _ _ _ _ _ _ _ _ _ c.in_ok-p0.ensures c.in_err-p1.ensures (put_past _ _ _) (put_past _ _ _) (put_past _ _ _) (put_ended _ _ _ _ c.from_residual-in_err-p1.ensures.1)

pub returns-in_err-p2 : goal.returns-in_err-p2
returns-in_err-p2 c = head_put _ _ _ _ _ _ _ _ _ _ _ _ _ _ _ _ _ c.in_ok-p0.ensures c.in_ok-p1.ensures c.in_err-p2.ensures (put_past _ _ _) (put_past _ _ _) (put_ended _ _ _ _ c.from_residual-in_err-p2.ensures.1)

pub returns-in_err-p3 : goal.returns-in_err-p3
returns-in_err-p3 c = head_put _ _ _ _ _ _ _ _ _ _ _ _ _ _ _ _ _ c.in_ok-p0.ensures c.in_ok-p1.ensures c.in_ok-p2.ensures c.in_err-p3.ensures (put_past _ _ _) (put_ended _ _ _ _ c.from_residual-in_err-p3.ensures.1)

pub returns-in_err-p4 : goal.returns-in_err-p4
returns-in_err-p4 c = head_put _ _ _ _ _ _ _ _ _ _ _ _ _ _ _ _ _ c.in_ok-p0.ensures c.in_ok-p1.ensures c.in_ok-p2.ensures c.in_ok-p3.ensures c.in_err-p4.ensures (put_ended _ _ _ _ c.from_residual-in_err-p4.ensures.1)

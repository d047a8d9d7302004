use Rattle.session_cut.proofs.writer.Laws.{fit_over, fit_short, fit_is}
use Rattle.session_cut.proofs.writer.source.Source.write_fitting.Goals as goal

pub returns-then-len-gt-MOST_BYTES_32 : goal.returns-then-len-gt-MOST_BYTES_32
returns-then-len-gt-MOST_BYTES_32 c = fit_over _ _ _ _ _ _ _ _ c.if-len-gt-MOST_BYTES_32.true

pub returns-then-out-len : goal.returns-then-out-len
returns-then-out-len c = fit_short _ _ _ _ _ _ _ _ c.if-len-gt-MOST_BYTES_32.false c.if-out-len.true

pub returns : goal.returns
returns c = fit_is _ _ _ _ _ _ _ _ c.if-len-gt-MOST_BYTES_32.false c.if-out-len.false c.requires.2 c.requires.3 _ _ c.put_all.ensures

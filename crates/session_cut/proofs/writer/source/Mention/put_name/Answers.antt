use mathlib.Core.Path.{sym, ◌∙◌}
use Rattle.spec_bytes.proofs.text.TextLaws.{put_ended}
use Rattle.session_cut.proofs.writer.Strings.{told_new, told_other, name_none, name_put}
use Rattle.session_cut.proofs.writer.source.Mention.put_name.Goals as goal

pub returns-in_default : goal.returns-in_default
returns-in_default c = name_none _ _ _ _ _ _ _ (sym c.args.self.now.first ∙ told_other _ c.in_default.not-New) _ _

pub returns-in_err-p : goal.returns-in_err-p
returns-in_err-p c = name_put _ _ _ _ _ _ _ (sym c.args.self.now.first ∙ told_new _ c.in-New.is) _ c.word.ensures _ _ _ _ _ _ c.in_err-p.ensures (put_ended _ _ _ _ c.from_residual.ensures.1)

pub returns : goal.returns
returns c = name_put _ _ _ _ _ _ _ (sym c.args.self.now.first ∙ told_new _ c.in-New.is) _ c.word.ensures _ _ _ _ _ _ c.in_ok-p.ensures c.put_byte.ensures

use Rattle.session_cut.proofs.writer.Strings.{base_start}
use Rattle.session_cut.proofs.writer.source.KeptType.length_to.Goals as goal

pub loop-j-init : goal.loop-j-init
loop-j-init c = base_start _ _ _ _ _ _ _ c.args.self.now.based

use mathlib.Core.Path.{sym, ◌∙◌, ap}
use mathlib.Core.Bool.{Bool}
use Rattle.std.specs.Prelude.{Ok}
use Rattle.spec_bytes.specs.text.Text.{whole}
use Rattle.spec_bytes.specs.text.Placed.{put_text}
use Rattle.session_cut.specs.writer.Bytes.{magic_bytes}
use Rattle.session_cut.proofs.writer.write.put_magic.Goals as goal

pub returns-then-big : goal.returns-then-big
unfolding magic_bytes
returns-then-big c = c.put_bytes.ensures ∙ ap (λ (q : Bool). put_text c.args.out.now (Ok c.args.at) (whole (magic_bytes q c.args.flags))) (sym c.if-big.true)

pub returns-else-big : goal.returns-else-big
unfolding magic_bytes
returns-else-big c = c.put_bytes-else-big.ensures ∙ ap (λ (q : Bool). put_text c.args.out.now (Ok c.args.at) (whole (magic_bytes q c.args.flags))) (sym c.if-big.false)

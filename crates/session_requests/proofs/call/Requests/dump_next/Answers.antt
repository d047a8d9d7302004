use native.Mathlib.Omega.{arith}
use mathlib.Core.Path.{◌∙◌}
use Rattle.spec_c_dumper.specs.origins.Causes.{entries_in}
use Rattle.session_requests.proofs.request.Laws as laws
use Rattle.session_requests.proofs.call.Requests.dump_next.Goals as goal

pub returns-then-is_idle : goal.returns-then-is_idle
returns-then-is_idle c =
    let n = laws.next_idle c.args.self.now.options _ _ _ _ c.args.list.now (entries_in c.args.list.now) c.args.p _ c.requires.0.0 c.requires.0.2 _ c.is_idle.ensures c.if-is_idle.true _ c.pass_idle.ensures in
    (laws.read_before _ _ _ _ _ _ _ _ _ _ _ _ n.0 c.requires.2, (omega (arith, n.2, c.requires.0.0), omega (arith, n.1, c.requires.0.1), n.3), λ z. (n.4 ∙ c.requires.2, laws.ready_more c.args.self.now.options _ _ c.requires.1))

pub returns : goal.returns
returns c = (laws.read_before _ _ _ _ _ _ _ _ _ _ _ _ c.dump_one.ensures.0 c.requires.2, c.dump_one.ensures.1, c.dump_one.ensures.3)

use Rattle.c_dumper_bodies.proofs.chain.Paths.{ChainLeft}
use Rattle.c_dumper_bodies.proofs.chain.links.chain_base.Given as goal

abbrev pub invariant-loop-n : goal.invariant-loop-n
invariant-loop-n l = ChainLeft l.b.head l.b.section.now l.work l.start l.id l.n

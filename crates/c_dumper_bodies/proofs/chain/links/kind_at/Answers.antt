use Rattle.c_dumper_bodies.proofs.chain.Paths.{kind_reads}
use Rattle.c_dumper_bodies.proofs.chain.links.kind_at.Goals as goal

pub returns : goal.returns
returns c = kind_reads c.args.b.now.head _ _ _ _ _ _ _ c.path_at.ensures c.type_by_id-t.ensures c.of.ensures

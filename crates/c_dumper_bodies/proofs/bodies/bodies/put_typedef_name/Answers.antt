use Rattle.c_dumper_bodies.proofs.bodies.BodyLaws as laws
use Rattle.c_dumper_bodies.proofs.bodies.bodies.put_typedef_name.Goals as goal

pub returns : goal.returns
returns c = laws.typedef_name _ _ _ _ _ _ _ _ _ _ c.resolve_type_name-name.ensures.1 c.put_name.ensures

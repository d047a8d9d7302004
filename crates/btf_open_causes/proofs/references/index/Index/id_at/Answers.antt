use Rattle.btf_open_causes.proofs.references.Accessors.{id_is}
use Rattle.btf_open_causes.proofs.references.index.Index.id_at.Goals as goal

pub returns : goal.returns
returns c n f = id_is _ _ _ _ _ _ _ (c.id_place.ensures n f) c.word.ensures

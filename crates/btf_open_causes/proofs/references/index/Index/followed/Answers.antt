use Rattle.btf_open_causes.proofs.references.Accessors.{followed_is, id_told}
use Rattle.btf_open_causes.proofs.references.index.Index.followed.Goals as goal

pub returns : goal.returns
returns c = followed_is _ _ _ _ c.entry-e.ensures _ _ _ (id_told _ _ _ _ c.place.ensures _ _ (c.id_at.ensures _ c.kind.ensures))

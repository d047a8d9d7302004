use Rattle.btf_open_names.proofs.hash_table.Laws.{put_none, put_some}
use Rattle.btf_open_names.proofs.keys.Spaces.{spaced}
use mathlib.Core.Path.{refl}
use Rattle.btf_open_names.proofs.hash_table.put_first.Goals as goal

pub returns-in_default : goal.returns-in_default
returns-in_default c = put_none _ _ _ _ _ _ _ c.in_default.ensures refl

pub returns : goal.returns
returns c = put_some _ _ _ _ _ _ _ c.in-Some.ensures _ _ _ _ (spaced _) c.hash.ensures refl refl c.put_in_front.ensures

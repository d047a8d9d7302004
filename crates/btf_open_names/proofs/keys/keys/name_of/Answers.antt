use Rattle.btf_open_names.proofs.name_classes.Keys as keys
use Rattle.btf_open_names.proofs.keys.keys.name_of.Goals as goal

pub returns : goal.returns
returns c = keys.name_is _ _ _ _ c.word.ensures

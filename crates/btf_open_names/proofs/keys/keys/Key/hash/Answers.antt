use Rattle.std.proofs.Common.{ap, ◌∙◌}
use Rattle.btf_open_names.specs.name_classes.Table.{hash_from}
use Rattle.btf_open_names.proofs.name_classes.Names.{name_of_rest}
use Rattle.btf_open_names.proofs.keys.Spaces.{hash_is}
use Rattle.btf_open_names.proofs.keys.keys.Key.hash.Goals as goal

pub returns : goal.returns
returns c = hash_is _ _ _ _ c.from.ensures (c.hash_name.ensures ∙ ap (hash_from _) (name_of_rest _ _ _ c.from_name.ensures))

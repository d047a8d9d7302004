use Rattle.c_dumper_name_versions.proofs.forwards.Forwards.{fwd_def}
use Rattle.c_dumper_name_versions.proofs.forwards.emit_fwd_def.Goals as goal

pub returns : goal.returns
returns c = fwd_def c.args.b.now.head _ _ _ _ _ _ _ _ _ _ _ c.kind_flag_of.ensures c.emit_keyed_name.ensures

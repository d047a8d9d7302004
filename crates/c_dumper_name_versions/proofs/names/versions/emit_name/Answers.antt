use Rattle.c_dumper_name_versions.proofs.names.Spellings.{put_after, put_apart}
use Rattle.c_dumper_name_versions.proofs.names.versions.emit_name.Goals as goal

pub returns-then-last_was_ptr : goal.returns-then-last_was_ptr
returns-then-last_was_ptr c = put_after _ _ _ _ _ _ c.if-last_was_ptr.true c.put_name.ensures

pub returns : goal.returns
returns c = put_apart _ _ _ _ _ _ c.if-last_was_ptr.false c.put_sep_name.ensures

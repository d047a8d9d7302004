use Rattle.c_dumper_name_versions.proofs.tags.Tags.{tags_none, tags_as}
use Rattle.c_dumper_name_versions.proofs.tags.emit_decl_tags.Goals as goal

pub returns-then-get_field-eq0 : goal.returns-then-get_field-eq0
returns-then-get_field-eq0 c = tags_none _ _ _ _ _ _ _ _ c.get_field.ensures c.if-get_field-eq0.true

pub returns : goal.returns
returns c = tags_as _ _ _ _ _ _ _ _ _ _ c.unwrap_or.ensures c.emit_tag_list.ensures

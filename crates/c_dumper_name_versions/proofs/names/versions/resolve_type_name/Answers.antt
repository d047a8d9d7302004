use Rattle.c_dumper_name_versions.proofs.names.Spellings.{bare_text}
use Rattle.c_dumper_name_versions.specs.declared.names.versions.Name.{Name}
use Rattle.c_dumper_name_versions.specs.names.Spelling.{name_text}
use mathlib.Core.Path.{ap, sym, ◌∙◌}
use Rattle.c_dumper_name_versions.proofs.names.Resolve.{type_empty, type_held, type_counted}
use Rattle.c_dumper_name_versions.proofs.names.versions.resolve_type_name.Goals as goal

pub returns-then-is_empty : goal.returns-then-is_empty
returns-then-is_empty c = (ap (λ (n : Name). n.off) c.bare.ensures, type_empty _ _ _ _ _ _ (sym c.is_empty.ensures ∙ c.if-is_empty.true) (bare_text c.args.b.now.head c.args.b.now.section.now _ _ c.bare.ensures))

pub returns-then-version-ne0 : goal.returns-then-version-ne0
returns-then-version-ne0 c = (ap (λ (n : Name). n.off) c.held.ensures, type_held _ _ _ _ _ _ _ (sym c.is_empty.ensures ∙ c.if-is_empty.false) c.if-version-ne0.true c.get_field-version.ensures (ap (name_text c.args.b.now.head c.args.b.now.section.now) c.held.ensures))

pub returns : goal.returns
returns c = (ap (λ (n : Name). n.off) c.held-2.ensures, type_counted _ _ _ _ _ _ _ _ _ _ (sym c.is_empty.ensures ∙ c.if-is_empty.false) c.if-version-ne0.false c.get_field-version.ensures c.get_number-n.ensures.0 c.get_number-n.ensures.1 c.put_field.ensures (ap (name_text c.args.b.now.head c.args.b.now.section.now) c.held-2.ensures))

use mathlib.Core.Path.{◌≡◌, refl, sym, ◌∙◌}
use Rattle.std.proofs.Common.{rules}
use Rattle.spec_type_table.specs.declared.kind.Kind.TheVariants.{DeclTag}
use Rattle.spec_type_table.proofs.KindNames.{decl_tag_number}
use Rattle.c_dumper_name_versions.proofs.tags.Tags.{tag_named, tag_no_kind, tag_no_comp, tag_shown}
use Rattle.c_dumper_name_versions.proofs.tags.emit_decl_tag.Goals as goal

pub returns-then-ne : goal.returns-then-ne
returns-then-ne c = tag_no_kind _ _ _ _ _ _ c.type_by_id-t.ensures _ _ _ refl (λ q. let f = tag_named _ _ c.of.ensures q in search rules)

pub returns-then-extra_word-comp_idx : goal.returns-then-extra_word-comp_idx
returns-then-extra_word-comp_idx c =
    let f : c.of.result ≡ DeclTag = search rules in
    tag_no_comp _ _ _ _ _ _ c.type_by_id-t.ensures _ _ _ _ refl (decl_tag_number _ (sym c.of.ensures ∙ f)) c.extra_word.ensures c.if-extra_word-comp_idx.true

pub returns : goal.returns
returns c =
    let f : c.of.result ≡ DeclTag = search rules in
    tag_shown _ _ _ _ _ _ c.type_by_id-t.ensures _ _ _ _ _ _ refl (decl_tag_number _ (sym c.of.ensures ∙ f)) c.extra_word.ensures c.if-extra_word-comp_idx.false c.put_attribute.ensures

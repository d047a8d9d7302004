use Prim.Native.Nat.{ℕ, ◌+◌}
use mathlib.Core.Path.{◌≡◌, ap, sym, ◌∙◌}
use Rattle.spec_type_table.specs.Records.{section_word}
use Rattle.std.proofs.Common.{rules}
use Rattle.spec_type_table.specs.declared.kind.Kind.TheVariants.{DeclTag}
use Rattle.spec_type_table.proofs.KindNames.{decl_tag_number}
use Rattle.btf_open_names.proofs.filled_work.Filled.{tag_kind, tag_other, tag_past, tag_put_lem}
use Rattle.btf_open_names.proofs.fill.fill_tag.Goals as goal

pub returns-then-ne : goal.returns-then-ne
returns-then-ne c = tag_other _ _ _ _ _ (λ q. let f = tag_kind _ _ c.kind.ensures q in search rules)

pub returns-then-b-on : goal.returns-then-b-on
returns-then-b-on c =
    let f : c.kind.result ≡ DeclTag = search rules in
    tag_past _ _ _ _ _ (decl_tag_number _ (sym c.kind.ensures ∙ f)) _ (c.word-on.ensures ∙ ap (λ (n : ℕ). section_word c.args.b.now.head c.args.b.now.section.now (n + 8)) c.place.ensures) c.if-b-on.true

pub returns : goal.returns
returns c =
    let f : c.kind.result ≡ DeclTag = search rules in
    tag_put_lem _ _ _ _ _ (decl_tag_number _ (sym c.kind.ensures ∙ f)) _ (c.word-on.ensures ∙ ap (λ (n : ℕ). section_word c.args.b.now.head c.args.b.now.section.now (n + 8)) c.place.ensures) c.if-b-on.false _ c.get_field-next.ensures _ _ c.put_field.ensures c.put_field-2.ensures

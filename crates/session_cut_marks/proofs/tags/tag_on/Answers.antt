use mathlib.Core.Path.{◌≡◌, refl, sym, ◌∙◌}
use Rattle.std.proofs.Common.{rules}
use Rattle.spec_type_table.specs.declared.kind.Kind.TheVariants.{DeclTag}
use Rattle.spec_type_table.proofs.KindNames.{named, decl_tag_number}
use Rattle.session_cut_marks.proofs.tags.Laws.{tag_none, target_word, tag_of_tag, tag_of_void, tag_of_other}
use Rattle.session_cut_marks.proofs.tags.tag_on.Goals as goal

pub returns-then-ne : goal.returns-then-ne
returns-then-ne c = tag_none _ _ _ _ _ c.entry-e.ensures (λ q. let f = c.kind.ensures ∙ sym (named _ DeclTag q) in search rules)

pub returns-then-is_tag : goal.returns-then-is_tag
returns-then-is_tag c =
    let f : c.kind.result ≡ DeclTag = search rules in
    let g : c.kind_at.result ≡ DeclTag = search rules in
    tag_of_tag _ _ _ _ _ c.entry-e.ensures (decl_tag_number _ (sym c.kind.ensures ∙ f)) _ (target_word _ _ _ _ _ c.place.ensures c.word-t.ensures) _ refl (decl_tag_number _ (sym c.kind_at.ensures ∙ g))

pub returns-then-t-eq0 : goal.returns-then-t-eq0
returns-then-t-eq0 c =
    let f : c.kind.result ≡ DeclTag = search rules in
    tag_of_void _ _ _ _ _ c.entry-e.ensures (decl_tag_number _ (sym c.kind.ensures ∙ f)) _ (target_word _ _ _ _ _ c.place.ensures c.word-t.ensures) _ refl (λ q. let g = c.kind_at.ensures ∙ sym (named _ DeclTag q) in search rules) c.if-t-eq0.true

pub returns : goal.returns
returns c =
    let f : c.kind.result ≡ DeclTag = search rules in
    tag_of_other _ _ _ _ _ c.entry-e.ensures (decl_tag_number _ (sym c.kind.ensures ∙ f)) _ (target_word _ _ _ _ _ c.place.ensures c.word-t.ensures) _ refl (λ q. let g = c.kind_at.ensures ∙ sym (named _ DeclTag q) in search rules) c.if-t-eq0.false

use mathlib.Core.Path.{refl, ◌∙◌, ap, subst}
use Rattle.std.specs.Prelude.{Ok}
use Rattle.std.proofs.lemmas.Option.{MatchOption-at_none, MatchOption-at_some}
use Rattle.spec_bytes.specs.text.Text.{whole}
use Rattle.spec_bytes.specs.text.Placed.{put_text}
use Rattle.btf_open_causes.specs.references.Followed.{entry_at}
use Rattle.session_cut_marks.specs.kept.AtKept.{at_kept}
use Rattle.session_cut_marks.specs.interned.Right.{IsKept}
use Rattle.session_cut_marks.specs.roles.Words.{words_in}
use Rattle.session_cut.specs.declared.writer.source.Source.{Source}
use Rattle.session_cut.specs.writer.Bytes.{words_part}
use Rattle.session_cut.proofs.writer.Laws.{kept_at}
use Rattle.session_cut.proofs.writer.Parts.{kept_none, kept_is}
use Rattle.session_cut.proofs.writer.source.Source.put_kept.Goals as goal

pub returns-in_default : goal.returns-in_default
returns-in_default c = λ l. kept_none _ _ _ _ _ _ _ refl _ _ (MatchOption-at_none _ _ c.in_default.is c.kept_type.ensures l) _

pub returns : goal.returns
returns c =
    let t = c.in-Some.t in
    let is = MatchOption-at_some _ _ _ c.in-Some.is c.kept_type.ensures in
    let kept = subst (λ (source : Source). IsKept source.kept t.x t.e.word) is.0 t.kept in
    let put = c.put_words.ensures ∙ (λ i. put_text c.args.out.now (Ok c.args.at) (whole (at_kept words_part (is.0 i).kept (is.0 i).bases.now c.args.part t.x t.e.word (words_in (is.0 i).kept.index.table.head (is.0 i).kept.index.table.section.now t.e.word)))) in
    λ l. kept_is _ _ _ _ _ _ _ refl _ _ (kept_at _ _ _ is.1 kept.kept) _ (kept.entry ∙ ap (entry_at _ _) is.1) _ is.1 _ _ _ put

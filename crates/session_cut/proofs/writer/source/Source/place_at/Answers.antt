use native.Mathlib.Omega.{arith}
use mathlib.Core.Path.{refl, sym, ◌∙◌, ap, subst}
use Prim.Native.Nat.{◌+◌, ◌≤◌}
use Rattle.std.proofs.lemmas.Option.{MatchOption-at_none, MatchOption-at_some}
use Rattle.session_cut.proofs.writer.Laws.{kept_at, place_unkept, place_none, place_long, first_some, first_few}
use Rattle.session_cut_marks.proofs.interned.Found.{base_kept}
use Rattle.btf_open_causes.specs.references.Followed.{entry_at}
use Rattle.session_cut_marks.specs.kept.AtKept.{at_kept}
use Rattle.session_cut_marks.specs.mentioned.Names.{base_of, new_sizes}
use Rattle.session_cut_marks.specs.interned.Right.{IsKept}
use Rattle.session_cut_marks.specs.roles.Words.{words_in}
use Rattle.session_cut.specs.declared.writer.source.Source.{Source}
use Rattle.session_cut.proofs.writer.source.Source.place_at.Goals as goal

pub returns-in_err-t : goal.returns-in_err-t
returns-in_err-t c = rw c.from_residual.ensures (place_unkept _ _ _ _ _ _ _ (MatchOption-at_none _ _ c.in_err-t.was c.kept_type.ensures))

pub returns-in_err-j : goal.returns-in_err-j
returns-in_err-j c =
    let t = c.in_ok-t.t in
    let is = MatchOption-at_some _ _ _ c.in_ok-t.was c.kept_type.ensures in
    let kept = subst (λ (source : Source). IsKept source.kept t.x t.e.word) is.0 t.kept in
    rw c.from_residual-in_err-j.ensures (place_none _ _ _ _ _ _ _ (kept_at _ _ _ is.1 kept.kept) _ (kept.entry ∙ ap (entry_at _ _) is.1) _ c.words_in.ensures _ c.first_name.ensures c.in_err-j.was)

pub length_to-requires : goal.length_to-requires
length_to-requires c =
    let t = c.in_ok-t.t in
    let is = MatchOption-at_some _ _ _ c.in_ok-t.was c.kept_type.ensures in
    subst (λ (source : Source). c.in_ok-j.j ≤ words_in source.kept.index.table.head source.kept.index.table.section.now t.e.word) (sym is.0)
    (first_few _ _ _ _ _ _ c.words_in.ensures (first_some _ _ _ _ _ _ c.first_name.ensures _ c.in_ok-j.was).1)

pub returns : goal.returns
returns c =
    let source = c.args.self.now in
    let t = c.in_ok-t.t in
    let is = MatchOption-at_some _ _ _ c.in_ok-t.was c.kept_type.ensures in
    let kept = subst (λ (source : Source). IsKept source.kept t.x t.e.word) is.0 t.kept in
    let length = c.length_to.ensures ∙ (λ i. at_kept base_of (is.0 i).kept t.x + at_kept new_sizes (is.0 i).kept t.x t.e.word c.in_ok-j.j) in
    place_long _ _ _ _ _ _ _ (kept_at _ _ _ is.1 kept.kept) _ is.1 _ (kept.entry ∙ ap (entry_at _ _) is.1) _ c.words_in.ensures _ c.first_name.ensures _ c.in_ok-j.was (base_kept _ _ _ _ _ source.right _ _ _ (omega (arith, kept.below, is.1)) source.based refl) _ length

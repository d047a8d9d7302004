use mathlib.Core.Path.{◌∙◌, ap}
use mathlib.Core.List.{List}
use Prim.Native.Nat.{ℕ}
use Rattle.std.proofs.Common.{rules}
use Rattle.btf_open_causes.specs.references.Followed.{type_count}
use Rattle.session_cut_marks.proofs.marks.Laws.{ids_are}
use Rattle.session_cut_marks.specs.tags.Tags.{tagged_to}
use Rattle.session_cut_marks.specs.marks.Marks.{all_zero}
use Rattle.session_cut_marks.proofs.marks.number_kept.Goals as goal

pub returns : goal.returns
unfolding all_zero
returns c =
    let b = c.args.index.now.table.head in
    ids_are _ _ _ _ _ _ _ _ _ _ _ _ _ c.push_given.ensures.turned c.close.ensures.turned
    (c.mark_tags.ensures ∙ ap (λ (l : List ℕ). tagged_to b c.args.index.now.table.section.now c.args.index.now.start.now l (type_count b)) (search rules)) c.number.ensures

use mathlib.Core.Path.{◌∙◌}
use Rattle.session_cut.proofs.writer.Laws.{first_sought, sought_place}
use Rattle.session_cut.proofs.writer.Strings.{told_is, told_in}
use Rattle.session_cut.proofs.writer.source.KeptType.mention.Goals as goal

pub is_first-new-requires : goal.is_first-new-requires
is_first-new-requires c =
    let t = c.args.self.now in
    first_sought _ _ _ _ _ t.source.now.right _ _ t.kept _ _ c.seek-place.ensures _ c.requires.0 c.requires.1

pub invariant_of-result : goal.invariant_of-result
invariant_of-result c =
    let source = c.args.self.now.source.now in
    record {
      inside = c.requires.0;
      so_far = c.requires.1;
      first = told_is _ _ _ c.told.ensures ∙ c.is_first-new.ensures;
      in_table = λ p h. sought_place _ _ _ _ _ source.right _ source.based _ _ _ c.seek-place.ensures p (told_in _ _ _ c.told.ensures p h);
    }

use Rattle.session_cut_marks.proofs.marks.Laws.{none_pushed, more_pushed, all_followed}
use Rattle.btf_open_causes.proofs.references.Accessors.{count_told, id_told}
use mathlib.Core.Path.{refl, ◌∙◌}
use Rattle.session_cut_marks.proofs.marks.Marking.push_followed.Goals as goal

pub loop-k-init : goal.loop-k-init
loop-k-init c = (none_pushed _ _, (refl, refl))

pub loop-k-preserved : goal.loop-k-preserved
loop-k-preserved c =
    let same = c.push.ensures.same in
    (more_pushed _ _ _ _ _ _ _ _ _ _ c.loop-k.invariant.0 (id_told _ _ _ _ c.place-in-loop-k.ensures _ _ (c.id_at.ensures _ c.kind-in-loop-k.ensures)) c.push.ensures.turned, (same.0 ∙ c.loop-k.invariant.1.0, same.1 ∙ c.loop-k.invariant.1.1))

pub returns-clause-turned : goal.returns-clause-turned
returns-clause-turned c = all_followed _ _ _ _ _ c.entry-e.ensures _ _ (count_told _ _ _ _ c.place.ensures _ (c.count_at-k-end.ensures _ c.kind.ensures)) c.loop-k.auto.k-end c.loop-k-test.false _ _ c.loop-k.invariant.0

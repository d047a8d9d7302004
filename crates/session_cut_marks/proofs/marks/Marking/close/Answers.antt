use Rattle.session_cut_marks.proofs.marks.Laws.{close_more, close_less, close_end}
use lib.ListN.{get_or}
use Prim.Native.Nat.{◌-◌}
use mathlib.Core.Path.{◌≡◌, ◌∙◌}
use Rattle.std.proofs.Common.{rules}
use Rattle.session_cut_marks.proofs.marks.Marking.close.Goals as goal

pub loop-self-smaller : goal.loop-self-smaller
loop-self-smaller c =
    let self = c.loop-self.self in
    let taken : c.stacked-x.result ≡ get_or self.stack.now (self.height - 1) 0 = search rules in
    close_less _ _ _ self.marks.now self.stack.now self.height c.loop-self-test.true _ _ _ c.stacked-x.result taken c.push_followed.ensures.turned

pub loop-self-preserved : goal.loop-self-preserved
loop-self-preserved c =
    let same = c.push_followed.ensures.same in
    let self = c.loop-self.self in
    let taken : c.stacked-x.result ≡ get_or self.stack.now (self.height - 1) 0 = search rules in
    (c.loop-self.invariant.0 ∙ close_more _ _ _ self.marks.now self.stack.now self.height c.loop-self-test.true _ _ _ _ taken c.push_followed.ensures.turned, (same.0 ∙ c.loop-self.invariant.1.0, same.1 ∙ c.loop-self.invariant.1.1))

pub returns-clause-turned : goal.returns-clause-turned
returns-clause-turned c = close_end _ _ _ _ _ _ c.loop-self-test.false _ c.loop-self.invariant.0

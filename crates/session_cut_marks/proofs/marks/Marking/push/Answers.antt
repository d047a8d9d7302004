use Rattle.session_cut_marks.proofs.marks.Laws.{push_void, push_past, push_full, push_marked, push_new}
use Rattle.session_cut_marks.proofs.marks.Marking.push.Goals as goal

pub returns-then-is_void-clause-turned : goal.returns-then-is_void-clause-turned
returns-then-is_void-clause-turned c = push_void _ _ _ _ c.if-is_void.true

pub returns-then-self-at-clause-turned : goal.returns-then-self-at-clause-turned
returns-then-self-at-clause-turned c = push_past _ _ _ _ c.if-is_void.false c.if-self-at.true

pub returns-then-self-clause-turned : goal.returns-then-self-clause-turned
returns-then-self-clause-turned c = push_full _ _ _ _ c.if-is_void.false c.if-self-at.false c.if-self.true

pub returns-then-self-at-ne0-clause-turned : goal.returns-then-self-at-ne0-clause-turned
returns-then-self-at-ne0-clause-turned c = push_marked _ _ _ _ c.if-is_void.false c.if-self-at.false c.if-self.false c.if-self-at-ne0.true

pub returns-clause-turned : goal.returns-clause-turned
returns-clause-turned c = push_new _ _ _ _ c.if-is_void.false c.if-self-at.false c.if-self.false c.if-self-at-ne0.false

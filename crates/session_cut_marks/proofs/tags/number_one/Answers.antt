use mathlib.Core.Path.{◌∙◌, ap}
use mathlib.Core.List.{List}
use Prim.Native.Nat.{ℕ, ◌+◌}
use Rattle.session_cut_marks.specs.tags.Tags.{numbered}
use Rattle.session_cut_marks.proofs.tags.Laws.{number_none, number_next}
use Rattle.session_cut_marks.proofs.tags.number_one.Goals as goal

pub returns-then-peek-eq0 : goal.returns-then-peek-eq0
returns-then-peek-eq0 c = number_none _ _ _ _ c.peek.ensures c.if-peek-eq0.true

pub returns : goal.returns
returns c = ap (λ (l : List ℕ). numbered l (c.args.c + 1)) c.store.ensures ∙ number_next _ _ _ _ c.peek.ensures c.if-peek-eq0.false

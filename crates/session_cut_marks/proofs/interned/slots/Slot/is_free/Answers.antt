use Rattle.std.proofs.Common.{eqb, ℕ, ◌≡◌}
use mathlib.Core.Path.{◌∙◌, sym, ap}
use native.Mathlib.Omega.{arith}
use borrow.Author.Tests.{ne_eqb}
use Rattle.session_cut_marks.specs.interned.Slots.{slot_word}
use Rattle.session_cut_marks.proofs.interned.slots.Slot.is_free.Goals as goal

pub returns-then-self-eq0 : goal.returns-then-self-eq0
unfolding slot_word
returns-then-self-eq0 c =
    let e : c.args.self.off ≡ slot_word c.args.self = omega (arith, c.if-self-eq0.true) in
    ap (λ (n : ℕ). eqb n 0) e

pub returns-else-self-eq0 : goal.returns-else-self-eq0
unfolding slot_word
returns-else-self-eq0 c = ne_eqb _ 0 c.if-self-eq0.false ∙ sym (ne_eqb (slot_word c.args.self) 0 (λ z. c.if-self-eq0.false (omega (arith, z))))

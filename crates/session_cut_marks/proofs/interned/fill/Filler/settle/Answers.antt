use Rattle.session_cut_marks.proofs.interned.Laws.{settled_plain, settled_old, settled_new, settled_at, size_few, words_length, word_at, word_set, word_free, word_taken}
use Rattle.session_cut_marks.specs.interned.Filled.{filled_of}
use Rattle.session_cut_marks.specs.interned.Slots.{slot_word}
use Rattle.session_cut_marks.proofs.mentioned.Laws.{name_short}
use mathlib.Core.Path.{refl, ap, ◌∙◌, sym}
use Prim.Native.Nat.{◌+◌}
use native.Mathlib.Omega.{arith}
use Rattle.session_cut_marks.proofs.interned.fill.Filler.settle.Goals as goal

pub overflow_add-self : goal.overflow_add-self
overflow_add-self c = omega (arith, c.requires, size_few _ _ _ _ _ _ _ c.args.from.now.short _ c.new_size.ensures)

pub overflow_add-self-2 : goal.overflow_add-self-2
overflow_add-self-2 c = omega (arith, c.args.from.now.short, c.requires, c.size.ensures, name_short c.args.from.now.kept.index.table.head c.args.from.now.kept.index.table.section.now c.args.off)

pub returns-then-self-at-clause-filled : goal.returns-then-self-at-clause-filled
returns-then-self-at-clause-filled c =
    settled_at _ _ _ _ _ _ _ _ _ _ _ _ c.slot-at.ensures _ (settled_plain _ _ _ _ _ _ _ _ _ _ _ (omega (arith, words_length c.args.self.now.table.now, c.if-self-at.true)) _ c.new_size.ensures)

pub returns-then-not-is_free-clause-filled : goal.returns-then-not-is_free-clause-filled
returns-then-not-is_free-clause-filled c =
    settled_at _ _ _ _ _ _ _ _ _ _ _ _ c.slot-at.ensures _
    (settled_old _ _ _ _ _ _ _ _ _ _ _ (omega (arith, words_length c.args.self.now.table.now, c.if-self-at.false))
    (λ z. word_taken _ _ c.is_free.ensures c.if-not-is_free.true (word_at c.args.self.now.table.now _ _ refl ∙ z)))

pub returns-clause-filled : goal.returns-clause-filled
unfolding slot_word
returns-clause-filled c =
    let n = c.args.self.now.len in
    ap (filled_of (n + c.size.result)) (word_set c.args.self.now.table.now c.slot-at.result (record { off = c.args.off; place = n }))
    ∙ settled_at _ _ _ _ _ _ _ _ _ _ _ _ c.slot-at.ensures _
    (settled_new _ _ _ _ _ _ _ _ _ _ _ (omega (arith, words_length c.args.self.now.table.now, c.if-self-at.false))
    (sym (word_at c.args.self.now.table.now _ _ refl) ∙ word_free _ _ c.is_free.ensures c.if-not-is_free.false) _ c.size.ensures)

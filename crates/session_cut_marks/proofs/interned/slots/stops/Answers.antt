use Prim.Native.Nat.{ℕ}
use mathlib.Core.Path.{sym, ◌∙◌, ap}
use native.Mathlib.Omega.{arith}
use Rattle.spec_c_dumper.specs.rules.Names.{same_bytes}
use Rattle.spec_type_table.specs.Names.{str_at}
use Rattle.session_cut_marks.proofs.interned.Laws.{word_at, word_off, stops_free, stops_name, word_free, word_taken}
use Rattle.session_cut_marks.proofs.interned.slots.stops.Goals as goal

pub returns-then-is_free : goal.returns-then-is_free
returns-then-is_free c = stops_free _ _ _ _ _ _ (word_at _ _ _ c.peek-slot.ensures) (word_free _ _ c.is_free.ensures c.if-is_free.true)

pub returns : goal.returns
returns c = stops_name _ _ _ _ _ _ (word_at _ _ _ c.peek-slot.ensures) (word_taken _ _ c.is_free.ensures c.if-is_free.false) _ (c.same_name.ensures ∙ ap (λ (u : ℕ). same_bytes (str_at c.args.b.now.head c.args.b.now.section.now u) (str_at c.args.b.now.head c.args.b.now.section.now c.args.off)) (sym (word_off _ (omega arith))))

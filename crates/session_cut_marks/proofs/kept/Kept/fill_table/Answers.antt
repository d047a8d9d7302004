use Rattle.session_cut_marks.proofs.interned.Laws.{none_filled, no_lengths, more_filled, more_lengths, filling_long, filling_is}
use mathlib.Core.Path.{refl, ◌∙◌, ap}
use mathlib.Core.List.{List}
use Rattle.session_cut_marks.specs.declared.interned.slots.Slot.{Slot}
use Rattle.session_cut_marks.specs.interned.Slots.{slot_words}
use Rattle.std.proofs.Common.{rules}
use Rattle.session_cut_marks.specs.interned.Filled.{filled_of, filling_of}
use Rattle.session_cut_marks.proofs.kept.Kept.fill_table.Goals as goal

pub returns-then-self-gt-MOST_BYTES : goal.returns-then-self-gt-MOST_BYTES
returns-then-self-gt-MOST_BYTES c = filling_long _ _ _ _ _ _ c.if-self-gt-MOST_BYTES.true

pub loop-x-init : goal.loop-x-init
loop-x-init c = (none_filled _ _ _ _ _ c.args.lengths.now, no_lengths _ _ _ _ (slot_words c.args.table.now) _, refl)

pub loop-x-preserved : goal.loop-x-preserved
loop-x-preserved c = (
  more_filled _ _ _ _ _ c.args.lengths.now _ _ _ c.loop-x.invariant.0 _ c.enter_type.ensures.filled,
  more_lengths _ _ _ _ _ _ _ _ _ c.loop-x.invariant.0 _ _ c.loop-x.invariant.1 c.store.ensures,
  c.enter_type.ensures.same ∙ c.loop-x.invariant.2,
)

pub returns : goal.returns
returns c =
    ap (λ (t : List Slot). filling_of (filled_of c.loop-x.filler.len (slot_words t)) c.loop-x.lengths) (search rules)
    ∙ filling_is _ _ _ _ _ _ c.if-self-gt-MOST_BYTES.false _ _ _ _ _ c.count-x-end.ensures c.loop-x.auto.x-end c.loop-x-test.false c.loop-x.invariant.0 c.loop-x.invariant.1

use mathlib.Core.Path.{ap}
use Rattle.session_record.specs.declared.numbered.NumberedTurn.{NumberedTurn}
use Rattle.session_record.proofs.numbered.Laws as laws
use Rattle.session_record.proofs.numbered.settle_number.Goals as goal

pub returns-then-is_accepted : goal.returns-then-is_accepted
returns-then-is_accepted c = (
  laws.settles_none _ _ c.args.work.now c.args.text.now _ c.clear_from.ensures _ _ c.turn_of.ensures c.if-is_accepted.true _ c.visits_in.ensures c.with_text.ensures,
  ap (λ (t : NumberedTurn). t.number) c.turn_of.ensures,
  ap (λ (t : NumberedTurn). t.value) c.turn_of.ensures,
)

pub returns : goal.returns
returns c = (
  laws.settles_number _ _ c.args.work.now c.args.text.now _ c.clear_from.ensures _ _ c.turn_of-2.ensures c.if-is_accepted.false _ c.clear.ensures c.with_text-2.ensures,
  ap (λ (t : NumberedTurn). t.number) c.turn_of-2.ensures,
  ap (λ (t : NumberedTurn). t.value) c.turn_of-2.ensures,
)

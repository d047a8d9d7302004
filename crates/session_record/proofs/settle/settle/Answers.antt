use Rattle.session_record.proofs.numbered.Laws as laws
use Rattle.session_record.proofs.settle.settle.Goals as goal

pub returns : goal.returns
returns c = laws.settles_typed _ _ c.args.work.now c.args.text.now _ _ _ c.stop_number.ensures _ _ _ c.settle_number-t.ensures.0 c.settle_number-t.ensures.1 _ c.answer_of.ensures

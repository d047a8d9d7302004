use Rattle.c_dumper_padding.proofs.padding.Laws.{emit_none, emit_gap, emit_refused}
use Rattle.c_dumper_padding.proofs.pads.Laws.{mode_is, ptr_size}
use Rattle.c_dumper_padding.proofs.padding.emit_bit_padding.Goals as goal

pub returns-then-end-offset : goal.returns-then-end-offset
returns-then-end-offset c = emit_none _ _ _ _ _ _ _ _ _ c.if-end-offset.true

pub returns : goal.returns
returns c = emit_gap _ _ _ _ _ _ _ _ _ c.if-end-offset.false _ _ _ _ _ _ (mode_is _ _ _) (ptr_size _ _ _) c.in_ok-a.ensures c.put_gap.ensures

pub returns-in_err-a : goal.returns-in_err-a
returns-in_err-a c = emit_refused _ _ _ _ _ _ _ _ _ c.if-end-offset.false _ _ _ c.in_err-a.ensures c.from_residual.ensures.1

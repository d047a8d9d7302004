use Rattle.spec_c_calls.proofs.Laws as laws
use Rattle.btfdump_c.proofs.exported.btfdump_open.Goals as goal

pub returns-then-record-lt-RECORD_BYTES : goal.returns-then-record-lt-RECORD_BYTES
returns-then-record-lt-RECORD_BYTES c = laws.open_short _ _ _ _ c.if-record-lt-RECORD_BYTES.true _ _

pub returns : goal.returns
returns c = laws.open_is _ _ _ _ c.if-record-lt-RECORD_BYTES.false _ c.decode.ensures _ _ _ _ _ _ _ c.open_core-t.ensures c.opened.ensures

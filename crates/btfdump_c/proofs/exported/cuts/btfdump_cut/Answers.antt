use Rattle.spec_c_calls.proofs.CutLaws as laws
use Rattle.btfdump_c.proofs.exported.NumberLaws as numbers
use Rattle.btfdump_c.proofs.exported.cuts.btfdump_cut.Goals as goal

pub returns-then-record-lt-RECORD_BYTES : goal.returns-then-record-lt-RECORD_BYTES
returns-then-record-lt-RECORD_BYTES c = rw (c.number_or_value.ensures, numbers.closed) (laws.cut_short _ _ _ _ c.if-record-lt-RECORD_BYTES.true)

pub returns : goal.returns
returns c = laws.cut_is _ _ _ _ c.if-record-lt-RECORD_BYTES.false _ _ _ _ c.decode.ensures c.cut-a.ensures c.number_or_value-2.ensures

use Rattle.spec_c_calls.proofs.FieldLaws as laws
use Rattle.btfdump_c.proofs.exported.NumberLaws as numbers
use Rattle.btfdump_c.proofs.exported.btfdump_field.Goals as goal

pub returns-then-record-lt-RECORD_BYTES : goal.returns-then-record-lt-RECORD_BYTES
returns-then-record-lt-RECORD_BYTES c = rw (c.number_or_value.ensures, numbers.closed) (laws.field_short _ _ _ _ _ _ c.if-record-lt-RECORD_BYTES.true)

pub returns : goal.returns
returns c = laws.field_is _ _ _ _ _ _ c.if-record-lt-RECORD_BYTES.false _ _ _ _ c.decode.ensures c.which_field-a.ensures c.number_or_value-2.ensures

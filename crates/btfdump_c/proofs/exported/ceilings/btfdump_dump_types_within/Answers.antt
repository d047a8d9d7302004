use mathlib.Core.Path.{refl}
use Rattle.session_requests.proofs.options.Cases as cases
use Rattle.btfdump_c.proofs.exported.NumberLaws as numbers
use Rattle.btfdump_c.proofs.exported.CeilingLaws as laws
use Rattle.btfdump_c.proofs.exported.ceilings.btfdump_dump_types_within.Goals as goal

pub returns-then-record-lt-RECORD_BYTES : goal.returns-then-record-lt-RECORD_BYTES
returns-then-record-lt-RECORD_BYTES c = rw (c.number_or_value.ensures, numbers.closed) (laws.types_short _ _ _ _ _ c.if-record-lt-RECORD_BYTES.true)

pub returns : goal.returns
returns c = laws.types_is _ _ _ _ _ c.if-record-lt-RECORD_BYTES.false _ refl _ _ _ _ _ (cases.within_types _ _ _ _ _ _ _ _ _ _ c.request_on-d.ensures) c.answered.ensures

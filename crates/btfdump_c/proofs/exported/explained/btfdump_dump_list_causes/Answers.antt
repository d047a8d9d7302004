use mathlib.Core.Path.{refl}
use Rattle.session_requests.proofs.options.Cases as cases
use Rattle.btfdump_c.proofs.exported.NumberLaws as numbers
use Rattle.btfdump_c.proofs.exported.CauseLaws as laws
use Rattle.btfdump_c.proofs.exported.explained.btfdump_dump_list_causes.Goals as goal

pub returns-then-ids-lt4 : goal.returns-then-ids-lt4
returns-then-ids-lt4 c = laws.list_none _ _ _ _ _ _ c.if-ids-lt4.true

pub returns-then-record-lt-RECORD_BYTES : goal.returns-then-record-lt-RECORD_BYTES
returns-then-record-lt-RECORD_BYTES c = rw (c.number_or_value.ensures, numbers.closed) (laws.list_short _ _ _ _ _ _ c.if-ids-lt4.false c.if-record-lt-RECORD_BYTES.true)

pub returns : goal.returns
returns c = laws.list_is _ _ _ _ _ _ c.if-ids-lt4.false c.if-record-lt-RECORD_BYTES.false _ refl _ _ _ _ _ _ (cases.causes_list _ _ _ _ _ _ _ _ _ _ c.request_on-d.ensures) c.listed.ensures

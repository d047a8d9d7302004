use mathlib.Core.Path.{sym}
use native.Mathlib.Omega.{arith}
use Rattle.spec_bytes.proofs.text.TextLaws.{put_same}
use Rattle.spec_bytes.proofs.text.DecimalLaws.{decimal_std}
use Rattle.base_bytes.proofs.put.decimal.put_decimal.Goals as goal

pub returns : goal.returns
returns c = put_same _ _ _ _ _ _ (sym (decimal_std c.args.n (omega arith))) c.put_integer.ensures

use mir.Syntax.{w32}
use native.Mathlib.Omega.{arith}
use Rattle.spec_bytes.proofs.text.TextLaws.{put_same}
use Rattle.base_keywords.proofs.signed_decimal.Laws.{signed_std}
use Rattle.base_keywords.proofs.signed_decimal.put_i32.Goals as goal

pub returns : goal.returns
returns c = put_same _ _ _ _ _ _ (signed_std w32 _ c.ranges.v (omega arith)) c.put_integer.ensures

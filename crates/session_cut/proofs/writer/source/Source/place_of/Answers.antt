use Rattle.session_cut.proofs.writer.Laws.{place_first, place_found}
use native.Mathlib.Omega.{arith}
use Rattle.session_cut.proofs.writer.source.Source.place_of.Goals as goal

pub returns-then-is_empty : goal.returns-then-is_empty
returns-then-is_empty c = place_first _ _ _ _ _ _ _ c.is_empty.ensures c.if-is_empty.true

pub returns : goal.returns
returns c = place_found _ _ _ _ _ _ _ c.is_empty.ensures c.if-is_empty.false _ c.place_from.ensures _ c.unwrap_or.ensures (omega arith)

use native.Mathlib.Omega.{arith}
use Rattle.spec_type_table.proofs.Laws.{place_type, place_enum}
use Rattle.btf_type_table.proofs.cell.HolderWord.place.Goals as goal

pub returns-then-h-types : goal.returns-then-h-types
returns-then-h-types c = place_type _ _ _ _ c.if-h-types.true

pub returns : goal.returns
returns c = place_enum _ _ _ _ (omega arith)

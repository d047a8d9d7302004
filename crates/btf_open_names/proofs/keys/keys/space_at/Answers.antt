use native.Mathlib.Omega.{arith}
use mathlib.Core.Path.{refl}
use Rattle.btf_open_names.proofs.name_classes.Keys as keys
use Rattle.btf_open_names.proofs.keys.keys.space_at.Goals as goal

pub returns-then-h-eq0 : goal.returns-then-h-eq0
returns-then-h-eq0 c = keys.space_void _ _ _ _ c.if-h-eq0.true

pub returns-then-h-b : goal.returns-then-h-b
returns-then-h-b c = keys.space_type _ _ _ _ _ _ _ c.if-h-eq0.false c.if-h-b.true c.word.ensures refl c.space_of.ensures

pub returns : goal.returns
returns c = keys.space_enum _ _ _ _ c.if-h-eq0.false (omega arith)

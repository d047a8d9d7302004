use mathlib.Core.Path.{◌∙◌, sym}
use Rattle.c_dumper_bodies.proofs.bodies.BodyLaws as laws
use Rattle.c_dumper_bodies.proofs.bodies.bodies.emit_enum_word.Goals as goal

pub returns-then-is_empty : goal.returns-then-is_empty
returns-then-is_empty c = laws.enum_inline _ _ _ _ _ _ _ _ _ _ _ _ _ (sym c.is_empty.ensures ∙ c.if-is_empty.true) c.emit_enum_def.ensures

pub returns : goal.returns
returns c = laws.enum_named _ _ _ _ _ _ _ _ _ _ _ _ _ (sym c.is_empty.ensures ∙ c.if-is_empty.false) c.emit_enum_head.ensures

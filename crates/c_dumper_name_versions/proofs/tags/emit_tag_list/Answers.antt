use Rattle.c_dumper_name_versions.proofs.tags.Tags.{tags_start, tags_turn, tags_stop, tags_past, tags_end}
use mathlib.Core.Path.{refl, ◌∙◌}
use native.Mathlib.Omega.{arith}
use Rattle.c_dumper_name_versions.proofs.tags.emit_tag_list.Goals as goal

pub loop-last-init : goal.loop-last-init
loop-last-init c = (refl, omega arith, omega arith, tags_start _ _ _ _ _ _ _ _ c.get_field-tag.ensures)

pub returns-then-b-tag : goal.returns-then-b-tag
returns-then-b-tag c = tags_past _ _ _ _ _ _ _ _ _ _ _ c.loop-last.invariant.3 c.loop-last-test.true c.if-b-tag.true

pub loop-last-preserved : goal.loop-last-preserved
loop-last-preserved c = (c.emit_decl_tag.auto.text ∙ c.loop-last.invariant.0, omega arith, omega arith, tags_turn _ _ _ _ _ _ _ _ _ _ _ _ _ _ c.loop-last.invariant.3 c.loop-last-test.true c.if-b-tag.false c.loop-last.invariant.1 c.in_ok-p.ensures c.get_field-tag-in-loop-last.ensures)

pub returns : goal.returns
returns c = tags_end _ _ _ _ _ _ _ _ _ _ _ c.loop-last.invariant.3 c.loop-last-test.false

pub returns-in_err-p : goal.returns-in_err-p
returns-in_err-p c = tags_stop _ _ _ _ _ _ _ _ _ _ _ _ (tags_turn _ _ _ _ _ _ _ _ _ _ _ _ _ _ c.loop-last.invariant.3 c.loop-last-test.true c.if-b-tag.false c.loop-last.invariant.1 c.in_err-p.ensures refl) c.from_residual.ensures.1

use Rattle.spec_type_table.specs.Table.{param_of}
use mathlib.Core.Path.{◌∙◌, sym}
use Rattle.c_dumper_bodies.proofs.bodies.WordLaws as laws
use Rattle.c_dumper_bodies.proofs.bodies.params.shown_params.Goals as goal
use Rattle.c_dumper_bodies.proofs.bodies.params.shown_params.Goals.{else-params-eq1-via-then-params-eq1+else-word-eq0, else-params-eq1-via-else-params-eq1}

pub returns-then-word-eq0 : goal.returns-then-word-eq0
returns-then-word-eq0 c = laws.shown_void (param_of c.args.b.now.head c.args.b.now.section.now c.args.params.at) _ c.if-params-eq1.true (sym (laws.type_at _ _ _ _ c.param_place.ensures) ∙ sym c.word.ensures ∙ c.if-word-eq0.true)

pub returns : goal.returns
returns c = elim c.else-params-eq1.branch [
  | else-params-eq1-via-then-params-eq1+else-word-eq0 w ↦ laws.shown_one (param_of c.args.b.now.head c.args.b.now.section.now c.args.params.at) _ w.if-params-eq1.true (λ e. w.if-word-eq0.false (w.word.ensures ∙ laws.type_at _ _ _ _ w.param_place.ensures ∙ e))
  | else-params-eq1-via-else-params-eq1 w ↦ laws.shown_many _ _ w.if-params-eq1.false
]

use Rattle.btf_open_names.proofs.name_classes.Laws as laws
use mathlib.Core.Path.{ap₂, ◌∙◌}
use Rattle.btf_open_names.specs.name_classes.Classes.{bucket_p, link_p}
use Rattle.btf_open_names.specs.name_classes.Same.{same_list}
use Rattle.btf_open_names.proofs.classify.find.Goals as goal

pub loop-l-init : goal.loop-l-init
loop-l-init c = laws.walk_start _ (bucket_p _) (link_p _) _ _ _ _ c.requires.0 c.get-l.ensures

pub returns-then-same_key : goal.returns-then-same_key
returns-then-same_key c = laws.walk_found _ (bucket_p _) (link_p _) _ _ _ _ c.loop-l.invariant c.loop-l-test.true _ (c.same_key.ensures ∙ ap₂ same_list c.load_key.ensures c.requires.1) c.if-same_key.true

pub loop-l-smaller : goal.loop-l-smaller
loop-l-smaller c = laws.walk_less _ (bucket_p _) (link_p _) _ _ _ _ c.loop-l.invariant c.loop-l-test.true _ c.get-l-in-loop-l.ensures

pub loop-l-preserved : goal.loop-l-preserved
loop-l-preserved c = laws.walk_turn _ (bucket_p _) (link_p _) _ _ _ _ c.loop-l.invariant c.loop-l-test.true _ _ (c.same_key.ensures ∙ ap₂ same_list c.load_key.ensures c.requires.1) c.if-same_key.false c.get-l-in-loop-l.ensures

pub returns : goal.returns
returns c = laws.walk_end _ (bucket_p _) (link_p _) _ _ _ _ c.loop-l.invariant c.loop-l-test.false

use mathlib.Core.Path.{refl, ap, ◌∙◌}
use Rattle.btf_open_names.specs.filled_work.Takers.{any_suffix}
use Rattle.btf_open_names.proofs.name_classes.Names.{name_of_rest}
use Rattle.btf_open_names.proofs.keys.Spaces.{spaced}
use Rattle.btf_open_names.proofs.filled_work.Holders.{suffixed_some, suffixed_none, taker_later, taker_plain, taker_none, taker_some}
use Rattle.btf_open_names.proofs.taken_numbers.lists.put_taker.Goals as goal

pub returns-then-get-h : goal.returns-then-get-h
returns-then-get-h c = taker_later _ _ _ _ _ _ c.get.ensures c.if-get-h.true

pub returns-in_default : goal.returns-in_default
returns-in_default c = taker_plain _ _ _ _ _ _ c.get.ensures c.if-get-h.false _ c.in_default.ensures _ (suffixed_none _) refl

pub returns-then-not-has_suffix : goal.returns-then-not-has_suffix
returns-then-not-has_suffix c = taker_plain _ _ _ _ _ _ c.get.ensures c.if-get-h.false _ c.in-Some.ensures _ (suffixed_some _ _ _ _ (spaced _) (c.has_suffix.ensures ∙ ap any_suffix (name_of_rest _ _ _ c.from_name.ensures))) c.if-not-has_suffix.true

pub returns-in-Some-base : goal.returns-in-Some-base
returns-in-Some-base c = taker_some _ _ _ _ _ _ c.get.ensures c.if-get-h.false _ c.in-Some.ensures _ (suffixed_some _ _ _ _ (spaced _) (c.has_suffix.ensures ∙ ap any_suffix (name_of_rest _ _ _ c.from_name.ensures))) c.if-not-has_suffix.false _ refl _ c.in-Some-base.ensures _ c.put_on.ensures

pub returns-in_default-base : goal.returns-in_default-base
returns-in_default-base c = taker_none _ _ _ _ _ _ c.get.ensures c.if-get-h.false _ c.in-Some.ensures _ (suffixed_some _ _ _ _ (spaced _) (c.has_suffix.ensures ∙ ap any_suffix (name_of_rest _ _ _ c.from_name.ensures))) c.if-not-has_suffix.false _ refl c.in_default-base.ensures

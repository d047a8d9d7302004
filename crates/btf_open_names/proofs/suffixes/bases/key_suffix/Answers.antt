use mathlib.Core.Path.{ap, ap₂, ◌∙◌}
use Rattle.btf_open_names.specs.filled_work.Takers.{suffix_on}
use Rattle.btf_open_names.proofs.name_classes.Names.{name_of_rest}
use Rattle.std.proofs.Common.{rules, unwrap_or}
use Rattle.btf_open_names.proofs.suffixes.Based.{suffix_none, suffix_of_none, suffix_apart, suffix_some}
use Rattle.btf_open_names.proofs.suffixes.bases.key_suffix.Goals as goal

pub returns-in_err-x : goal.returns-in_err-x
returns-in_err-x c = ap (λ o. unwrap_or o 0) c.from_residual.ensures ∙ suffix_none _ _ _ c.in_err-x.was

pub returns-in_err-y : goal.returns-in_err-y
returns-in_err-y c = ap (λ o. unwrap_or o 0) c.from_residual-in_err-y.ensures ∙ suffix_of_none _ _ _ c.in_err-y.was

pub returns-then-ne : goal.returns-then-ne
returns-then-ne c = suffix_apart _ _ _ _ _ c.in_ok-x.was c.in_ok-y.was (λ e. search rules)

pub returns : goal.returns
returns c = suffix_some _ _ _ _ _ c.in_ok-x.was c.in_ok-y.was (search rules) _
    (c.suffix_on.ensures ∙ ap₂ suffix_on (name_of_rest _ _ _ c.from_name.ensures) (name_of_rest _ _ _ c.from_name-2.ensures))

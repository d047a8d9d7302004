use mathlib.Core.Path.{ap, sym, ◌∙◌}
use Rattle.btf_open_names.specs.keys.Keys.{space_code, loaded}
use Rattle.btf_open_names.proofs.keys.Spaces.{key_none, key_some}
use Rattle.btf_open_names.proofs.keys.keys.load_key.Goals as goal

pub returns-in_err-space : goal.returns-in_err-space
returns-in_err-space c = ap (loaded _) c.from_residual.ensures ∙ key_none _ _ _ _ _ c.get-at.ensures (sym c.space_at.ensures ∙ ap space_code c.in_err-space.was)

pub returns : goal.returns
returns c = key_some _ _ _ _ _ c.get-at.ensures _ (sym (ap space_code c.in_ok-space.was) ∙ c.space_at.ensures) c.name_of.ensures
